use Rattle.std.proofs.Common.{map, refl, ap, sym, ◌∙◌, [], ◌∷◌, ◌++◌, Some, option_map}
use Rattle.pi_base.specs.declared.word.Word.TheVariants.{InvalidParameter}
use Rattle.act_code.specs.declared.action.Action.TheVariants as A
use Rattle.store_model.specs.{StateFacts.IsDesc, Service.Descriptor.guid_at, Service.Install.reinstall}
use Rattle.boot_model.specs.declared.line.CallName.TheVariants as C
use Rattle.boot_model.specs.PeiAction.{Called, sweep_reply, reinstall_reply}
use Rattle.pei_core.specs.Taken.{swept}
use Rattle.boot_model.proofs.Held.{held_two}
use Rattle.pei_core.proofs.Changing.{fault_changes, refusal_changes, reinstall_places, swept_changes}
use Rattle.pei_core.proofs.Lasting.{reinstall_grows, same_guid_at, still_there}
use Rattle.pei_core.proofs.Served.{given_where, not_given, refused_taken, swept_taken}
use Rattle.pei_core.proofs.ppis.reinstall_ppi.Goals as goal

pub reinstall-requires : goal.reinstall-requires
reinstall-requires g c = record {
  state = let h = c.requires.state in (h.0, h.1, held_two h.0 c.args.frame.now.registers c.args.old c.args.new c.in-Some.one c.in-Some.other h.2 c.in-Some.ensures);
}

pub returns-in-None-clause-row : goal.returns-in-None-clause-row
returns-in-None-clause-row g c old h = (old, not_given C.Reinstall _ (reinstall_reply old c.args.frame.now) old c.args.frame.now c.refusal.result c.in-None.ensures c.refusal.ensures, h.0)

pub returns-in-None-clause-changes : goal.returns-in-None-clause-changes
returns-in-None-clause-changes g c s stood held =
    let row = returns-in-None-clause-row g c s (stood, held) in
    refusal_changes C.Reinstall InvalidParameter s row.0 c.args.frame.now (A.Reinstall c.args.old c.args.new) c.refusal.result refl c.refusal.ensures row.1

pub returns-in-Ok-clause-row : goal.returns-in-Ok-clause-row
returns-in-Ok-clause-row g c old h =
    let registers = c.args.frame.now.registers in
    let mid = c.in-Ok.ensures.row old (h.0, held_two old registers c.args.old c.args.new c.in-Some.one c.in-Some.other h.1 c.in-Some.ensures) in (
      mid.0,
      swept_taken C.Reinstall _ old mid.0 registers c.in-Ok.sweep (c.in-Some.other ∷ []) c.replaced-changes.result c.swept.result
          (given_where C.Reinstall _ (c.in-Some.one, c.in-Some.other) (reinstall_reply old c.args.frame.now) old c.args.frame.now c.in-Some.ensures
          ∙ ap (λ service. Called C.Reinstall (sweep_reply service (c.in-Some.other.offset ∷ []) old registers)) mid.1)
          (c.swept.ensures ∙ ap (λ installs. swept C.Reinstall c.in-Ok.sweep installs c.replaced-changes.result) (c.push.ensures.items ∙ ap (λ xs. xs ++ c.in-Some.other ∷ []) c.new-installs.ensures)),
      mid.2,
    )

pub returns-in-Err-clause-row : goal.returns-in-Err-clause-row
returns-in-Err-clause-row g c old h =
    let registers = c.args.frame.now.registers in
    let mid = c.in-Err.ensures.row old (h.0, held_two old registers c.args.old c.args.new c.in-Some.one c.in-Some.other h.1 c.in-Some.ensures) in (
      mid.0,
      refused_taken g.M.PeiStore.TAKES_MEMORY C.Reinstall _ (reinstall old c.in-Some.one c.in-Some.other c.args.frame.now.module_number) (λ service. sweep_reply service (c.in-Some.other.offset ∷ []) old registers) old mid.0 registers c.in-Err.fault c.refused.result
          (given_where C.Reinstall _ (c.in-Some.one, c.in-Some.other) (reinstall_reply old c.args.frame.now) old c.args.frame.now c.in-Some.ensures) (λ _. refl) mid.1 c.refused.ensures,
      mid.2,
    )

pub replaced-changes-requires : goal.replaced-changes-requires
replaced-changes-requires g c = record {
  state =
      let h = c.requires.state in
      let two = held_two h.0 c.args.frame.now.registers c.args.old c.args.new c.in-Some.one c.in-Some.other h.2 c.in-Some.ensures in
      let mid = c.in-Ok.ensures.row h.0 (h.1, two) in
      let grown = reinstall_grows c.bodies_stay.ensures h.0 mid.0 c.in-Some.one c.in-Some.other c.args.frame.now.module_number c.in-Ok.sweep mid.1 in
      (mid.0, mid.2, (still_there h.0 mid.0 c.in-Some.one grown two.0, still_there h.0 mid.0 c.in-Some.other grown two.1));
}

pub returns-in-Ok-clause-changes : goal.returns-in-Ok-clause-changes
returns-in-Ok-clause-changes g c s stood held =
    let frame = c.args.frame.now in
    let one = c.in-Some.one in
    let other = c.in-Some.other in
    let row = returns-in-Ok-clause-row g c s (stood, held) in
    let two = held_two s frame.registers c.args.old c.args.new one other held c.in-Some.ensures in
    let mid = c.in-Ok.ensures.row s (stood, two) in
    let grown = reinstall_grows c.bodies_stay.ensures s mid.0 one other frame.module_number c.in-Ok.sweep mid.1 in
    let there : IsDesc mid.0 one × IsDesc mid.0 other = (still_there s mid.0 one grown two.0, still_there s mid.0 other grown two.1) in
    let replaced = c.replaced-changes.ensures mid.0 mid.2 there in
    let places = reinstall_places frame c.args.old c.args.new one other c.in-Some.ensures in
    swept_changes C.Reinstall s row.0 frame (A.Reinstall c.args.old c.args.new) c.in-Ok.sweep _ c.replaced-changes.result c.swept.result c.swept.ensures row.1
    (ap (λ x. x.there.items) replaced ∙ ap (λ guid. guid ∷ []) (same_guid_at s mid.0 other grown two.1) ∙ ap (map (guid_at s)) (sym places.0))
    (ap (λ x. x.gone) replaced ∙ ap Some (same_guid_at s mid.0 one grown two.0) ∙ ap (option_map (guid_at s)) (sym places.1))

pub returns-in-Err-clause-changes : goal.returns-in-Err-clause-changes
returns-in-Err-clause-changes g c s stood held =
    let row = returns-in-Err-clause-row g c s (stood, held) in
    fault_changes c.in-Err.fault g.M.PeiStore.TAKES_MEMORY C.Reinstall s row.0 c.args.frame.now (A.Reinstall c.args.old c.args.new) c.refused.result c.refused.ensures row.1
