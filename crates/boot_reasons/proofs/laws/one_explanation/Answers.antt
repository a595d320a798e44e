use Rattle.boot_reasons.specs.Unseen.{choices_of}
use Rattle.boot_reasons.proofs.OneRun.{RunLaws, one_boot}
use Rattle.boot_reasons.proofs.laws.one_explanation.Goals as goal

pub returns : goal.returns
returns g c =
    let laws : RunLaws = record { aims = c.cursor_aims.ensures.aims; orders = c.order_is_of_modules.ensures } in
    one_boot laws (choices_of (g.C.Choice.rules c.args.choice.now))
