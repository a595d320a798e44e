use Rattle.boot_laws.proofs.Standing.{sweeps_stay}
use Rattle.boot_laws.proofs.sound.sweeps_stay.Goals as goal

pub returns : goal.returns
returns c = sweeps_stay
