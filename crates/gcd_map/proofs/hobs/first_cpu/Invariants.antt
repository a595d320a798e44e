use Rattle.std.proofs.Common.{◌≡◌, length}
use Rattle.pi_base.specs.Lists.{Each}
use Rattle.gcd_map.specs.{HobMap.first_cpu, Places.IsNear}
use Rattle.gcd_map.proofs.hobs.first_cpu.Given as goal

abbrev pub invariant-cpus : goal.invariant-cpus
invariant-cpus l = record {
  first : first_cpu l.bytes l.rest ≡ first_cpu l.bytes l.places;
  near : Each IsNear l.rest;
}

abbrev pub decreases-cpus : goal.decreases-cpus
decreases-cpus l = length l.rest
