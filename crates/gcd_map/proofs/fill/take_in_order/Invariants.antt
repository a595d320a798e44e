use Rattle.std.proofs.Common.{length}
use Rattle.pi_base.specs.Lists.{Each}
use Rattle.gcd_map.specs.HobMap.{allocations, MayBeTaken, taken}
use Rattle.gcd_map.specs.{HobFaults.IsNotTaken, Places.IsNear}
use Rattle.gcd_map.proofs.Following.{Goes}
use Rattle.gcd_map.proofs.fill.take_in_order.Given as goal

abbrev pub invariant-allocations : goal.invariant-allocations
invariant-allocations l = record {
  goes : Goes MayBeTaken taken IsNotTaken l.fn.map (allocations l.bytes l.places) l.map (allocations l.bytes l.rest);
  near : Each IsNear l.rest;
}

abbrev pub decreases-allocations : goal.decreases-allocations
decreases-allocations l = length l.rest
