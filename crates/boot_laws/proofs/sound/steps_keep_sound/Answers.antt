use Rattle.boot_laws.proofs.SoundSteps.{steps_keep_sound}
use Rattle.boot_laws.proofs.sound.steps_keep_sound.Goals as goal

pub returns : goal.returns
returns c = steps_keep_sound
