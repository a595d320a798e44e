use Rattle.std.proofs.Common.{◌≡◌, ◌++◌, length}
use Rattle.program_edge.specs.NotedVolumes.{driver_volumes}
use Rattle.program_edge.proofs.noted_volumes.drivers_of.Given as goal

abbrev pub invariant-modules : goal.invariant-modules
invariant-modules l = driver_volumes l.modules ≡ l.found ++ driver_volumes l.rest

abbrev pub decreases-modules : goal.decreases-modules
decreases-modules l = length l.rest
