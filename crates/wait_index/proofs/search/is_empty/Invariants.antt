use Rattle.std.proofs.Common.{◌≡◌, ℕ, ◌+◌, ◌*◌, ◌<◌, ◌≤◌, false}
use Rattle.wait_index.specs.PlaceFlags.{flag}
use Rattle.wait_index.proofs.search.is_empty.Given as goal

abbrev pub invariant-places : goal.invariant-places
invariant-places l = record {
  within : l.left ≤ 64;
  none : (place : ℕ) → l.block * 64 + l.left ≤ place → place < l.block * 64 + 64 → flag l.flags place ≡ false;
}

abbrev pub decreases-places : goal.decreases-places
decreases-places l = l.left
