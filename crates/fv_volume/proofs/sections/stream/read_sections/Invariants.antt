use Rattle.std.proofs.Common.{length, ◌+◌, ◌-◌, ◌≤◌}
use Rattle.fv_volume.specs.Stream.{Leads, AreInside}
use Rattle.fv_volume.proofs.sections.stream.read_sections.Given as goal

-- the sections so far lead from the start to this place
abbrev pub invariant-stream : goal.invariant-stream
invariant-stream l = record {
  leads : Leads l.bytes 0 l.sections l.at;
  few : length l.sections ≤ 256;
  inside : AreInside l.bytes l.sections;
  within : l.at ≤ length l.bytes + 3;
}

abbrev pub decreases-stream : goal.decreases-stream
decreases-stream l = length l.bytes + 3 - l.at
