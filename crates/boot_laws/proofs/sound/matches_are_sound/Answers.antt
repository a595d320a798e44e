use Rattle.boot_laws.proofs.Firings.{matches_are_sound}
use Rattle.boot_laws.proofs.sound.matches_are_sound.Goals as goal

pub returns : goal.returns
returns c = matches_are_sound
