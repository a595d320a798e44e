use Rattle.std.proofs.Common.{◌++◌, List, subst, take, option_to_list}
use Rattle.pi_base.specs.declared.guid.Guid.{Guid}
use Rattle.act_code.specs.declared.action.Action.{Action}
use Rattle.explain_text.specs.Gives.{AreMet, named_by, named_in_block}
use Rattle.explain_text.proofs.Named.{flat_next}
use Rattle.explain_text.proofs.catalog.gives.meet_block.Goals as goal

pub actions-preserved : goal.actions-preserved
actions-preserved c = λ before are.
    let list = c.args.actions.now in
    let i = c.actions.action-index in
    subst (λ (guids : List Guid). AreMet guids c.meet_action.new.met)
    (flat_next (λ (action : Action). option_to_list (named_by action)) before list i _ c.action-item.result c.actions-test.true c.action-item.is)
    (c.in_ok-meet_action.ensures (before ++ named_in_block (take i list)) (c.actions.invariant before are))
