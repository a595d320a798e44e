use Rattle.boot_reasons.specs.Unseen.{choices_of}
use Rattle.boot_reasons.proofs.OwnBoots.{boot_of}
use Rattle.boot_reasons.proofs.laws.explained_is_a_boot.Goals as goal

pub returns : goal.returns
returns g c = boot_of (choices_of (g.C.Choice.rules c.args.choice.now))
