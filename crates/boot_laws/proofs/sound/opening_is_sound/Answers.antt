use Rattle.boot_laws.proofs.Openings.{opening_is_sound}
use Rattle.boot_laws.proofs.sound.opening_is_sound.Goals as goal

pub returns : goal.returns
returns c = opening_is_sound
