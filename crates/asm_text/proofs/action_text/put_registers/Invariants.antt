use Rattle.std.proofs.Common.{◌≡◌, ◌++◌, take, map, flat_map}
use Rattle.asm_text.specs.{ActionText.spaced, Numerals.register}
use Rattle.asm_text.proofs.action_text.put_registers.Given as goal

abbrev pub invariant-loop-register : goal.invariant-loop-register
invariant-loop-register l = l.out ≡ l.fn.out ++ flat_map spaced (map register (take l.register-index l.registers))
