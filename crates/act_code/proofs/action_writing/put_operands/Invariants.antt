use Rattle.std.proofs.Common.{◌≡◌, ◌++◌, take, flat_map}
use Rattle.act_code.specs.{Format.spelled, Operands.told}
use Rattle.act_code.proofs.action_writing.put_operands.Given as goal

abbrev pub invariant-loop-operand : goal.invariant-loop-operand
invariant-loop-operand l = l.out ≡ l.fn.out ++ flat_map (told spelled) (take l.operand-index l.operands)
