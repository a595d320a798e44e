use Rattle.std.proofs.Common.{◌≡◌, true, sym, ap, ◌∙◌}
use Rattle.boot_model.specs.DxeChoice.{is_waiting}
use Rattle.boot_reasons.specs.Noting.{giver_in}
use Rattle.dxe_core.specs.Services.{flag_at}
use Rattle.pi_base.specs.declared.phase.Phase.TheVariants.{Dxe}
use Rattle.store_model.specs.HandleState.{has_protocol}
use Rattle.explain_text.specs.Change.{change_for}
use Rattle.boot_reasons.proofs.DxeEnds.{held_one}
use Rattle.boot_reasons.proofs.dxe_held.held_of.Goals as goal

pub returns : goal.returns
returns c m of queue =
    let waits : is_waiting m c.args.number ≡ true = sym (queue.waits c.args.number) ∙ sym c.is_waiting.ensures ∙ c.if-not-is_waiting.false in
    let was = c.is_requested-requested.ensures ∙ ap (λ flags. flag_at flags c.args.number) c.requested.ensures ∙ of.services.requested c.args.number in
    let lacks = c.in-Ok.ensures ∙ ap (λ h. change_for (has_protocol h) Dxe c.in-Some.part.now.expr) (c.handles.ensures ∙ sym of.services.handles) in
    held_one c.args.catalog.now m (giver_in c.args.givers.now.map) c.args.number c.in-Some.part.now c.reason_of.result c.in_ok-needs.needs c.in-Ok.change waits (sym c.in-Some.ensures)
    (c.reason_of.ensures m was) c.in_ok-needs.ensures lacks
