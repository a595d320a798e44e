use Rattle.std.proofs.Common.{length}
use Rattle.program_edge.proofs.Passed.{IsAhead}
use Rattle.program_edge.proofs.noted_volumes.has_module.Given as goal

abbrev pub invariant-volumes : goal.invariant-volumes
invariant-volumes l = IsAhead l.volumes l.rest l.phase l.volume l.number l.name

abbrev pub decreases-volumes : goal.decreases-volumes
decreases-volumes l = length l.rest
