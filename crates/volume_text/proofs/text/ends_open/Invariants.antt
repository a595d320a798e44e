use Rattle.std.proofs.Common.{◌+◌, ◌≤◌, length}
use Rattle.volume_text.specs.Step.{IsSaidState}
use Rattle.volume_text.proofs.Going.{Reached}
use Rattle.volume_text.proofs.text.ends_open.Given as goal

-- the lines so far were gone through, and the rest are to come
abbrev pub invariant-lines : goal.invariant-lines
invariant-lines l = record {
  reached : Reached l.text l.state l.number l.rest;
  said : IsSaidState l.state;
  few : l.number + length l.rest ≤ length l.text + 1;
}

abbrev pub decreases-lines : goal.decreases-lines
decreases-lines l = length l.rest
