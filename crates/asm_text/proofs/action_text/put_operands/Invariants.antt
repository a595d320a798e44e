use Rattle.std.proofs.Common.{◌≡◌, ◌++◌, take, flat_map}
use Rattle.act_code.specs.Operands.{told}
use Rattle.asm_text.specs.ActionText.{operand_text}
use Rattle.asm_text.proofs.action_text.put_operands.Given as goal

abbrev pub invariant-loop-operand : goal.invariant-loop-operand
invariant-loop-operand l = l.out ≡ l.fn.out ++ flat_map (told (operand_text l.code)) (take l.operand-index l.operands)
