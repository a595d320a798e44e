use Rattle.boot_core.proofs.OneRun.{RunLaws}
use Rattle.recorded_boot.proofs.OnePass.{one_hand_off}
use Rattle.recorded_boot.proofs.handing_on.one_hand_off.Goals as goal

pub returns : goal.returns
returns c = let laws : RunLaws = record { aims = c.cursor_aims.ensures.aims; orders = c.order_is_of_modules.ensures } in one_hand_off laws
