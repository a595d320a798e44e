use Rattle.boot_model.specs.PlanBoard.{board_of}
use Rattle.recorded_boot.proofs.handing_on.hand_on_over.Goals as goal

pub returns : goal.returns
returns c = c.hand_on.ensures (board_of c.args.plan.now c.args.catalog.now c.args.images) c.in_ok-store.ensures
