use Rattle.boot_laws.proofs.Staying.{action_holds}
use Rattle.boot_laws.proofs.sound.actions_are_sound.Goals as goal

pub returns : goal.returns
returns c = action_holds
