use Rattle.std.proofs.Common.{◌≡◌, ◌++◌, map, take}
use Rattle.depex_code.specs.declared.instruction.Instruction.TheVariants as instruction
use Rattle.depex_code.specs.Expression.{bytes_of}
use Rattle.depex_code.proofs.writing.put_code.Given as goal

abbrev pub invariant-loop-opcode : goal.invariant-loop-opcode
invariant-loop-opcode l = l.out ≡ l.fn.out ++ bytes_of (map instruction.Of (take l.opcode-index l.code))
