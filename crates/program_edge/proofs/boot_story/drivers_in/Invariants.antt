use Rattle.std.proofs.Common.{◌≡◌, length}
use Rattle.program_edge.specs.BootStory.{drivers_in}
use Rattle.program_edge.proofs.boot_story.drivers_in.Given as goal

abbrev pub invariant-volumes : goal.invariant-volumes
invariant-volumes l = drivers_in l.volumes l.volume ≡ drivers_in l.rest l.number

abbrev pub decreases-volumes : goal.decreases-volumes
decreases-volumes l = length l.rest
