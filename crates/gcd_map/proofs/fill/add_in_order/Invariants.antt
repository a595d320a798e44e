use Rattle.std.proofs.Common.{length}
use Rattle.pi_base.specs.Lists.{Each}
use Rattle.gcd_map.specs.HobMap.{resources, MayCome, came}
use Rattle.gcd_map.specs.{HobFaults.ComesNot, Places.IsNear}
use Rattle.gcd_map.proofs.Following.{Goes}
use Rattle.gcd_map.proofs.fill.add_in_order.Given as goal

abbrev pub invariant-resources : goal.invariant-resources
invariant-resources l = record {
  goes : Goes MayCome came ComesNot l.fn.map (resources l.bytes l.places) l.map (resources l.bytes l.rest);
  near : Each IsNear l.rest;
}

abbrev pub decreases-resources : goal.decreases-resources
decreases-resources l = length l.rest
