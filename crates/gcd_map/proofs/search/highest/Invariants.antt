use Rattle.std.proofs.Common.{◌≤◌, length, drop, None}
use Rattle.gcd_map.specs.Tests.{IsHighest}
use Rattle.gcd_map.proofs.search.highest.Given as goal

abbrev pub invariant-rooms : goal.invariant-rooms
invariant-rooms l = record {
  within : l.left ≤ length l.ranges;
  none : IsHighest (drop l.left l.ranges) l.state l.unit l.len None;
}

abbrev pub decreases-rooms : goal.decreases-rooms
decreases-rooms l = l.left
