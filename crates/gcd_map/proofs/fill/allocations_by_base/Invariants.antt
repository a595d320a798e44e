use Rattle.std.proofs.Common.{◌≡◌, ◌++◌, length}
use Rattle.gcd_map.specs.HobMap.{allocations}
use Rattle.gcd_map.proofs.fill.allocations_by_base.Given as goal

abbrev pub invariant-places : goal.invariant-places
invariant-places l = l.sorted ++ allocations l.bytes l.rest ≡ allocations l.bytes l.places

abbrev pub decreases-places : goal.decreases-places
decreases-places l = length l.rest
