use Rattle.boot_laws.proofs.Firings.{pops_are_sound}
use Rattle.boot_laws.proofs.sound.pops_are_sound.Goals as goal

pub returns : goal.returns
returns c = pops_are_sound
