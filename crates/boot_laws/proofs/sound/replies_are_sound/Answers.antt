use Rattle.boot_laws.proofs.Staying.{replies_are_sound}
use Rattle.boot_laws.proofs.sound.replies_are_sound.Goals as goal

pub returns : goal.returns
returns c = replies_are_sound
