use Rattle.boot_laws.proofs.SoundSteps.{starts_keep_sound}
use Rattle.boot_laws.proofs.sound.starts_keep_sound.Goals as goal

pub returns : goal.returns
returns c = starts_keep_sound
