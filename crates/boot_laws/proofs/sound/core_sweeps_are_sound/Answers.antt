use Rattle.boot_laws.proofs.CoreSweeps.{core_sweeps_are_sound}
use Rattle.boot_laws.proofs.sound.core_sweeps_are_sound.Goals as goal

pub returns : goal.returns
returns c = core_sweeps_are_sound
