use Rattle.std.proofs.Common.{◌≤◌, ◌-◌, length}
use Rattle.pi_base.specs.Lists.{Each}
use Rattle.hob_codec.specs.HobList.{Leads}
use Rattle.gcd_map.specs.Places.{IsNear}
use Rattle.gcd_map.proofs.walk.places_of.Given as goal

abbrev pub invariant-walk : goal.invariant-walk
invariant-walk l = record {
  leads : Leads l.bytes 0 l.places l.at;
  within : l.at ≤ length l.bytes;
  near : Each IsNear l.places;
}

abbrev pub decreases-walk : goal.decreases-walk
decreases-walk l = length l.bytes - l.at
