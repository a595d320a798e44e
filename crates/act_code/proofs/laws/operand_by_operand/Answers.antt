use Rattle.act_code.proofs.InTurn.{action_told}
use Rattle.act_code.proofs.laws.operand_by_operand.Goals as goal

pub returns : goal.returns
returns c = action_told
