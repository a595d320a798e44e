use Rattle.std.proofs.Common.{◌≡◌, ◌-◌, ◌≤◌, length}
use Rattle.asm_text.specs.OperandReading.{registers_within}
use Rattle.asm_text.proofs.RegisterLists.{in_front}
use Rattle.asm_text.proofs.list_reading.few_registers.Given as goal

-- the registers so far, and those that are read of the rest
abbrev pub invariant-registers : goal.invariant-registers
invariant-registers l = (registers_within 8 l.text ≡ in_front l.list (registers_within (8 - length l.list) l.rest)) × (length l.list ≤ 8)

abbrev pub decreases-registers : goal.decreases-registers
decreases-registers l = 8 - length l.list
