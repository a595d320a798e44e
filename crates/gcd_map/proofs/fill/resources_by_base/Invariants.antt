use Rattle.std.proofs.Common.{◌≡◌, ◌++◌, length}
use Rattle.gcd_map.specs.HobMap.{resources}
use Rattle.gcd_map.proofs.fill.resources_by_base.Given as goal

abbrev pub invariant-places : goal.invariant-places
invariant-places l = l.sorted ++ resources l.bytes l.rest ≡ resources l.bytes l.places

abbrev pub decreases-places : goal.decreases-places
decreases-places l = length l.rest
