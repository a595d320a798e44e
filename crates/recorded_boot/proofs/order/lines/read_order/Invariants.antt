use Rattle.std.proofs.Common.{◌≡◌, ◌+◌, ◌≤◌, ◌++◌, ℕ, List, length}
use Rattle.line_words.specs.Line.{lines}
use Rattle.recorded_boot.specs.OrderText.{AreLinesOf, numbered, numbered_from}
use Rattle.recorded_boot.proofs.order.lines.read_order.Given as goal

-- the lines so far spell what is asked for
abbrev pub invariant-lines : goal.invariant-lines
invariant-lines l = record {
  short : l.number + length l.rest ≤ 1 + length l.text;
  far : (before : List (ℕ × List ℕ)) × (numbered l.text ≡ before ++ numbered_from l.number (lines l.rest)) × AreLinesOf l.order before;
}

abbrev pub decreases-lines : goal.decreases-lines
decreases-lines l = length l.rest
