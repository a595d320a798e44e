use Rattle.boot_core.proofs.OneRun.{RunLaws}
use Rattle.recorded_boot.proofs.OnePass.{one_pass}
use Rattle.recorded_boot.proofs.passes.one_pass.Goals as goal

pub returns : goal.returns
returns c = let laws : RunLaws = record { aims = c.cursor_aims.ensures.aims; orders = c.order_is_of_modules.ensures } in one_pass laws
