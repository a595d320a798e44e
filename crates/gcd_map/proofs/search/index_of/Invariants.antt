use Rattle.std.proofs.Common.{◌-◌, ◌<◌, ◌≤◌, length}
use Rattle.gcd_map.specs.Tests.{base_at}
use Rattle.gcd_map.proofs.search.index_of.Given as goal

abbrev pub invariant-bisection : goal.invariant-bisection
invariant-bisection l = record {
  order : l.low < l.high;
  within : l.high ≤ length l.ranges;
  below : base_at l.ranges l.low ≤ l.address;
  above : l.high < length l.ranges → l.address < base_at l.ranges l.high;
}

abbrev pub decreases-bisection : goal.decreases-bisection
decreases-bisection l = l.high - l.low
