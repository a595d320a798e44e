use Rattle.std.proofs.Common.{ap, sym, ◌∙◌}
use Rattle.act_code.specs.Index.{is_indexed}
use Rattle.act_code.proofs.InTurn.{action_indexed}
use Rattle.act_code.proofs.index.is_indexed.Goals as goal

pub returns-in-Set : goal.returns-in-Set
returns-in-Set c = c.are_indexed.ensures ∙ ap (is_indexed c.args.count) (sym c.in-Set.is)

pub returns-in_default : goal.returns-in_default
returns-in_default c = c.are_operands_indexed.ensures ∙ action_indexed c.args.count c.args.action.now c.operands.result c.operands.ensures
