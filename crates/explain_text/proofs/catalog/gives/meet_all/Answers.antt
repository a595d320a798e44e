use Rattle.std.proofs.Common.{◌++◌, List, subst, take, ◌∙◌}
use Rattle.pi_base.specs.declared.guid.Guid.{Guid}
use Rattle.explain_text.specs.Gives.{AreMet, named_in_all, named_in_block}
use Rattle.explain_text.proofs.Named.{flat_next}
use Rattle.explain_text.proofs.catalog.gives.meet_all.Goals as goal

pub scripts-preserved : goal.scripts-preserved
scripts-preserved c = λ before are.
    let list = c.args.blocks.now in
    let i = c.scripts.actions-index in
    subst (λ (guids : List Guid). AreMet guids c.meet_block.new.met) (flat_next named_in_block before list i _ c.as_slice.result.now c.scripts-test.true (c.as_slice.ensures ∙ c.actions-item.is))
    (c.in_ok-meet_block.ensures (before ++ named_in_all (take i list)) (c.scripts.invariant before are))
