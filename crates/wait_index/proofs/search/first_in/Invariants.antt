use Rattle.std.proofs.Common.{◌≡◌, ℕ, ◌-◌, ◌<◌, ◌≤◌, false, length}
use Rattle.wait_index.specs.PlaceFlags.{either}
use Rattle.wait_index.proofs.search.first_in.Given as goal

abbrev pub invariant-places : goal.invariant-places
invariant-places l = record {
  on : l.from ≤ l.at;
  none : (place : ℕ) → l.from ≤ place → place < l.at → either l.both l.flags l.more place ≡ false;
}

abbrev pub decreases-places : goal.decreases-places
decreases-places l = length l.flags - l.at
