use Rattle.std.proofs.Common.{◌≤◌, ◌-◌, length}
use Rattle.hob_codec.specs.HobList.{Leads}
use Rattle.hob_codec.proofs.list.walk.Given as goal

abbrev pub invariant-walk : goal.invariant-walk
invariant-walk l = record {
  leads : Leads l.bytes 0 l.places l.at;
  within : l.at ≤ length l.bytes;
}

abbrev pub decreases-walk : goal.decreases-walk
decreases-walk l = length l.bytes - l.at
