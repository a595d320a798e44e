use Rattle.std.proofs.Common.{◌∙◌, ap, not, length, ◌==◌}
use Rattle.store_model.specs.HandleState.{has_protocol}
use Rattle.dxe_core.proofs.Indexes.{has_is}
use Rattle.dxe_core.proofs.database.handles.HandlesGuidSet.has.Goals as goal

pub returns : goal.returns
returns c =
    let guid = c.args.guid.now in
    ap not c.is_empty.ensures ∙ ap (λ ns. not (length ns == 0)) (c.of.ensures ∙ c.self.invariant.1 guid) ∙ has_is guid c.self.inside.interfaces.items ∙ ap (λ h. has_protocol h guid) c.self.view_is
