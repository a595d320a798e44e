use Rattle.std.proofs.Common.{length}
use Rattle.gcd_map.specs.{HobFaults.IsNotTaken, HobMap.MayBeTaken, HobMap.taken}
use Rattle.gcd_map.proofs.Following.{Goes}
use Rattle.gcd_map.proofs.fill.take_each.Given as goal

abbrev pub invariant-stretches : goal.invariant-stretches
invariant-stretches l = Goes MayBeTaken taken IsNotTaken l.fn.map l.stretches l.map l.rest

abbrev pub decreases-stretches : goal.decreases-stretches
decreases-stretches l = length l.rest
