use Rattle.std.proofs.Common.{◌≡◌, ℕ, List, Contains, length, slice_get}
use Rattle.line_words.specs.Line.{lines}
use Rattle.program_edge.specs.PlanMistake.{line_of}
use Rattle.program_edge.proofs.plan_mistake.line_at.Given as goal

abbrev pub invariant-lines : goal.invariant-lines
invariant-lines l = record {
  line : (line : List ℕ) → Contains (lines l.rest) line → Contains (lines l.text) line;
  ahead : line_of l.text l.number ≡ slice_get (lines l.rest) l.ahead;
}

abbrev pub decreases-lines : goal.decreases-lines
decreases-lines l = length l.rest
