use Rattle.std.proofs.Common.{List, ap, ◌∙◌, option_copied, slice_get}
use Rattle.act_code.specs.declared.action.Action.{Action}
use Rattle.phase_parts.proofs.FoundActions.{action_in, block_in, blocks_in}
use Rattle.phase_parts.proofs.Got.{by_item, by_none, got}
use Rattle.phase_parts.proofs.found.action_at.Goals as goal

pub returns-in_err-part : goal.returns-in_err-part
returns-in_err-part g c =
    let frame = c.args.frame.now in
    ap option_copied c.from_residual.ensures ∙ ap (λ part. action_in frame.position (block_in frame.block part)) c.in_err-part.ensures

pub returns-in_err-block : goal.returns-in_err-block
returns-in_err-block g c =
    let frame = c.args.frame.now in
    ap option_copied c.from_residual-in_err-block.ensures
    ∙ by_none (action_in frame.position) c.as_slice.result.now (blocks_in c.in_ok-part.part.now) frame.block c.as_slice.ensures c.in_err-block.ensures.lookup.3
    ∙ ap (λ part. action_in frame.position (block_in frame.block part)) c.in_ok-part.ensures

pub returns : goal.returns
returns g c =
    let frame = c.args.frame.now in
    got c.as_slice-2.result.now frame.position c.get-2.result c.get-2.ensures.lookup ∙ ap (λ (actions : List Action). slice_get actions frame.position) c.as_slice-2.ensures
    ∙ by_item (action_in frame.position) c.as_slice.result.now (blocks_in c.in_ok-part.part.now) frame.block c.in_ok-block.block.now c.as_slice.ensures c.in_ok-block.ensures.lookup.3
    ∙ ap (λ part. action_in frame.position (block_in frame.block part)) c.in_ok-part.ensures
