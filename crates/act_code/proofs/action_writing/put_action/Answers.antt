use Rattle.std.proofs.Common.{[], ◌∷◌, ◌++◌, ap, ◌∙◌}
use Rattle.act_code.specs.Table.{number_of}
use Rattle.act_code.proofs.InTurn.{bytes_told, all_short, behind_code}
use Rattle.act_code.proofs.action_writing.put_action.Goals as goal

pub put_operands-requires : goal.put_operands-requires
put_operands-requires c = all_short c.args.action.now c.operands.result c.operands.ensures c.requires

pub returns : goal.returns
returns c =
    let told = bytes_told c.args.action.now c.operands.result c.operands.ensures in
    behind_code c.put_operands.result _ _ _ _ _ _ (c.in_ok-push.ensures.ok ∙ ap (λ n. c.args.out.now ++ n ∷ []) (c.number.ensures ∙ ap number_of c.code.ensures)) told c.put_operands.ensures
