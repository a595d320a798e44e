use Rattle.std.proofs.Common.{map, refl, ap, sym, subst, ◌∙◌, Err}
use Rattle.pi_base.specs.declared.word.Word.TheVariants.{InvalidParameter}
use Rattle.act_code.specs.declared.action.Action.TheVariants as A
use Rattle.boot_model.specs.declared.line.CallName.TheVariants as C
use Rattle.store_model.specs.{Service.Answers, Service.Descriptor.guid_at, Service.Descriptor.offsets, Service.Install.install}
use Rattle.boot_model.specs.PeiAction.{Called, sweep_reply, install_reply}
use Rattle.boot_model.proofs.Held.{held_list}
use Rattle.pei_core.proofs.Changing.{fault_changes, install_places, refusal_changes, swept_changes}
use Rattle.pei_core.proofs.Lasting.{all_still_there, install_grows, same_guids_at}
use Rattle.pei_core.proofs.Served.{given_where, not_given, refused_taken, swept_taken}
use Rattle.pei_core.proofs.ppis.install_ppis.Goals as goal

pub install-requires-clause-state : goal.install-requires-clause-state
install-requires-clause-state g c =
    let h = c.requires.state in (h.0, h.1, held_list h.0 c.args.frame.now.registers c.args.list.now c.in-Some.found.items c.as_slice.result.now h.2 c.in-Some.ensures.found c.as_slice.ensures.value)

pub returns-in-None-clause-row : goal.returns-in-None-clause-row
returns-in-None-clause-row g c old h = (old, not_given C.Install _ (install_reply old c.args.frame.now) old c.args.frame.now c.refusal.result c.in-None.ensures.found c.refusal.ensures, h.0)

pub returns-in-None-clause-changes : goal.returns-in-None-clause-changes
returns-in-None-clause-changes g c s stood held =
    let row = returns-in-None-clause-row g c s (stood, held) in
    refusal_changes C.Install InvalidParameter s row.0 c.args.frame.now (A.Install c.args.list.now) c.refusal.result refl c.refusal.ensures row.1

pub returns-in-Ok-clause-row : goal.returns-in-Ok-clause-row
returns-in-Ok-clause-row g c old h =
    let registers = c.args.frame.now.registers in
    let found = c.in-Some.found.items in
    let mid = c.in-Ok.ensures.row old (h.0, held_list old registers c.args.list.now found c.as_slice.result.now h.1 c.in-Some.ensures.found c.as_slice.ensures.value) in (
      mid.0,
      swept_taken C.Install _ old mid.0 registers c.in-Ok.sweep found c.put_in-changes.result c.swept.result
          (given_where C.Install _ found (install_reply old c.args.frame.now) old c.args.frame.now c.in-Some.ensures.found
          ∙ ap (λ service. Called C.Install (sweep_reply service (offsets found) old registers)) (ap (λ xs. install old xs c.args.frame.now.module_number) (sym c.as_slice.ensures.value) ∙ mid.1))
          c.swept.ensures,
      mid.2,
    )

pub returns-in-Err-clause-row : goal.returns-in-Err-clause-row
returns-in-Err-clause-row g c old h =
    let registers = c.args.frame.now.registers in
    let found = c.in-Some.found.items in
    let by = c.args.frame.now.module_number in
    let mid = c.in-Err.ensures.row old (h.0, held_list old registers c.args.list.now found c.as_slice.result.now h.1 c.in-Some.ensures.found c.as_slice.ensures.value) in (
      mid.0,
      refused_taken g.M.PeiStore.TAKES_MEMORY C.Install _ (install old found by) (λ service. sweep_reply service (offsets found) old registers) old mid.0 registers c.in-Err.fault c.refused.result
          (given_where C.Install _ found (install_reply old c.args.frame.now) old c.args.frame.now c.in-Some.ensures.found) (λ _. refl)
          (subst (λ xs. Answers g.M.PeiStore.TAKES_MEMORY (install old xs by) old (Err c.in-Err.fault) mid.0) c.as_slice.ensures.value mid.1) c.refused.ensures,
      mid.2,
    )

pub put_in-changes-requires-clause-state : goal.put_in-changes-requires-clause-state
put_in-changes-requires-clause-state g c =
    let h = c.requires.state in
    let registers = c.args.frame.now.registers in
    let found = c.in-Some.found.items in
    let mid = c.in-Ok.ensures.row h.0 (h.1, held_list h.0 registers c.args.list.now found c.as_slice.result.now h.2 c.in-Some.ensures.found c.as_slice.ensures.value) in
    let grown = install_grows c.bodies_stay.ensures h.0 mid.0 c.as_slice.result.now c.args.frame.now.module_number c.in-Ok.sweep mid.1 in
    (mid.0, mid.2, all_still_there h.0 mid.0 c.as_slice-in-Ok.result.now grown (held_list h.0 registers c.args.list.now found c.as_slice-in-Ok.result.now h.2 c.in-Some.ensures.found c.as_slice-in-Ok.ensures.value))

pub returns-in-Ok-clause-changes : goal.returns-in-Ok-clause-changes
returns-in-Ok-clause-changes g c s stood held =
    let frame = c.args.frame.now in
    let list = c.args.list.now in
    let found = c.in-Some.found.items in
    let row = returns-in-Ok-clause-row g c s (stood, held) in
    let mid = c.in-Ok.ensures.row s (stood, held_list s frame.registers list found c.as_slice.result.now held c.in-Some.ensures.found c.as_slice.ensures.value) in
    let grown = install_grows c.bodies_stay.ensures s mid.0 c.as_slice.result.now frame.module_number c.in-Ok.sweep mid.1 in
    let read = c.as_slice-in-Ok.result.now in
    let each = held_list s frame.registers list found read held c.in-Some.ensures.found c.as_slice-in-Ok.ensures.value in
    let put = c.put_in-changes.ensures mid.0 mid.2 (all_still_there s mid.0 read grown each) in
    swept_changes C.Install s row.0 frame (A.Install list) c.in-Ok.sweep found c.put_in-changes.result c.swept.result c.swept.ensures row.1
    (ap (λ x. x.there.items) put ∙ same_guids_at s mid.0 read grown each ∙ ap (λ xs. map (guid_at s) (offsets xs)) c.as_slice-in-Ok.ensures.value
    ∙ ap (map (guid_at s)) (sym (install_places frame list found c.in-Some.ensures.found)))
    (ap (λ x. x.gone) put)

pub returns-in-Err-clause-changes : goal.returns-in-Err-clause-changes
returns-in-Err-clause-changes g c s stood held =
    let row = returns-in-Err-clause-row g c s (stood, held) in
    fault_changes c.in-Err.fault g.M.PeiStore.TAKES_MEMORY C.Install s row.0 c.args.frame.now (A.Install c.args.list.now) c.refused.result c.refused.ensures row.1
