use Rattle.std.proofs.Common.{◌≡◌, ℕ, ◌+◌, ◌<◌, ◌≤◌, length, take, drop, None}
use Rattle.line_words.specs.Line.{lines}
use Rattle.boot_plan.specs.{Said.said, Draft.Keeps, Draft.IsInRange, PlanText.cause_at}
use Rattle.boot_plan.proofs.read.read_plan.Given as goal

-- the lines so far are sound, the draft has what they say, and the rest is what is left
abbrev pub invariant-lines : goal.invariant-lines
invariant-lines l = record {
  within : l.count ≤ length (lines l.text);
  short : l.count + length l.rest ≤ length l.text;
  left : drop l.count (lines l.text) ≡ lines l.rest;
  sound : (place : ℕ) → place < l.count → cause_at (lines l.text) place ≡ None;
  keeps : Keeps (said (take l.count (lines l.text))) l.draft;
  range : IsInRange l.draft;
}

abbrev pub decreases-lines : goal.decreases-lines
decreases-lines l = length l.rest
