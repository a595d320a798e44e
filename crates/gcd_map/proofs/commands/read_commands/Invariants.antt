use Rattle.std.proofs.Common.{◌≡◌, ℕ, ◌+◌, ◌<◌, ◌≤◌, [], length, map, take, drop, get_or, Some}
use Rattle.line_words.specs.Line.{lines}
use Rattle.gcd_map.specs.CommandText.{spelled, IsBad}
use Rattle.gcd_map.proofs.commands.read_commands.Given as goal

-- the lines so far spell the commands, none of them is bad, and the rest is what is left
abbrev pub invariant-lines : goal.invariant-lines
invariant-lines l = record {
  within : l.count ≤ length (lines l.text);
  short : l.count + length l.rest ≤ length l.text;
  left : drop l.count (lines l.text) ≡ lines l.rest;
  sound : (place : ℕ) → place < l.count → IsBad (get_or (lines l.text) place []) → ⊥;
  commands : spelled (take l.count (lines l.text)) ≡ map (λ command. Some command) l.commands;
}

abbrev pub decreases-lines : goal.decreases-lines
decreases-lines l = length l.rest
