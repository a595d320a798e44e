use Rattle.std.proofs.Common.{refl, ap, sym, subst, ◌∙◌, [], Err}
use Rattle.boot_model.specs.declared.line.CallName.TheVariants as C
use Rattle.store_model.specs.{Service.Answers, Service.Descriptor.offsets, Service.Notify.notify}
use Rattle.boot_model.specs.PeiAction.{Called, sweep_reply, notify_reply}
use Rattle.pei_core.specs.Taken.{changes_by, swept}
use Rattle.boot_model.proofs.Held.{held_list}
use Rattle.pei_core.proofs.Served.{given_where, refused_taken, swept_taken}
use Rattle.pei_core.proofs.Changing.{refused_none}
use Rattle.pei_core.proofs.notifications.notify_ppis.Goals as goal

pub notify-requires-clause-state : goal.notify-requires-clause-state
notify-requires-clause-state g c =
    let h = c.requires.state in (h.0, h.1, held_list h.0 c.args.frame.now.registers c.args.list.now c.in-Some.found.items c.as_slice.result.now h.2 c.in-Some.ensures.found c.as_slice.ensures.value)

pub returns-in-Ok-clause-row : goal.returns-in-Ok-clause-row
returns-in-Ok-clause-row g c old h =
    let registers = c.args.frame.now.registers in
    let found = c.in-Some.found.items in
    let mid = c.in-Ok.ensures.row old (h.0, held_list old registers c.args.list.now found c.as_slice.result.now h.1 c.in-Some.ensures.found c.as_slice.ensures.value) in (
      mid.0,
      swept_taken C.Notify _ old mid.0 registers c.in-Ok.sweep [] c.none.result c.swept.result
          (given_where C.Notify _ found (notify_reply old c.args.frame.now) old c.args.frame.now c.in-Some.ensures.found
          ∙ ap (λ service. Called C.Notify (sweep_reply service (offsets []) old registers)) (ap (λ xs. notify old xs c.args.frame.now.module_number) (sym c.as_slice.ensures.value) ∙ mid.1))
          (c.swept.ensures ∙ ap (λ installs. swept C.Notify c.in-Ok.sweep installs c.none.result) c.new.ensures),
      mid.2,
    )

pub returns-in-Err-clause-row : goal.returns-in-Err-clause-row
returns-in-Err-clause-row g c old h =
    let registers = c.args.frame.now.registers in
    let found = c.in-Some.found.items in
    let by = c.args.frame.now.module_number in
    let mid = c.in-Err.ensures.row old (h.0, held_list old registers c.args.list.now found c.as_slice.result.now h.1 c.in-Some.ensures.found c.as_slice.ensures.value) in (
      mid.0,
      refused_taken g.M.PeiStore.TAKES_MEMORY C.Notify _ (notify old found by) (λ service. sweep_reply service (offsets []) old registers) old mid.0 registers c.in-Err.fault c.refused.result
          (given_where C.Notify _ found (notify_reply old c.args.frame.now) old c.args.frame.now c.in-Some.ensures.found) (λ _. refl)
          (subst (λ xs. Answers g.M.PeiStore.TAKES_MEMORY (notify old xs by) old (Err c.in-Err.fault) mid.0) c.as_slice.ensures.value mid.1) c.refused.ensures,
      mid.2,
    )

pub returns-in-Err-clause-changes : goal.returns-in-Err-clause-changes
returns-in-Err-clause-changes g c = refused_none c.in-Err.fault C.Notify c.refused.result c.refused.ensures

pub returns-in-Ok-clause-changes : goal.returns-in-Ok-clause-changes
returns-in-Ok-clause-changes g c = ap changes_by c.swept.ensures ∙ c.none.ensures
