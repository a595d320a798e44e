use Rattle.std.proofs.Common.{sym, ap, ◌∙◌}
use Rattle.boot_reasons.proofs.DxeEnds.{explained_so}
use Rattle.boot_reasons.proofs.dxe.explain_end.Goals as goal

pub returns : goal.returns
returns g c =
    explained_so g.M.PeiStore.stands_for c.args.store.now c.args.catalog.now c.args.dxe.now c.args.queue.now c.args.told c.args.end c.in-Ok.held c.in-Ok-copied.discovered c.actions.result
    c.in-Ok.ensures
    (λ m of. c.in-Ok-copied.ensures ∙ c.volumes.ensures ∙ ap (λ order. order.volumes) c.order.ensures ∙ of.services.order.volumes_are)
    (λ m of. c.actions.ensures ∙ sym of.actions)
