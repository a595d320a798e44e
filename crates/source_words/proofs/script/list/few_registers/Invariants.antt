use Rattle.std.proofs.Common.{◌≡◌, ◌-◌, ◌≤◌, length}
use Rattle.source_words.specs.{Words.words, Operands.registers_within}
use Rattle.source_words.proofs.RegisterLists.{in_front}
use Rattle.source_words.proofs.script.list.few_registers.Given as goal

-- the registers so far, and those that are read of the rest
abbrev pub invariant-registers : goal.invariant-registers
invariant-registers l = (registers_within 8 (words l.text) ≡ in_front l.list (registers_within (8 - length l.list) (words l.rest))) × (length l.list ≤ 8)

abbrev pub decreases-registers : goal.decreases-registers
decreases-registers l = length l.rest
