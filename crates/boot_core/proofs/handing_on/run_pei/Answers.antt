use Rattle.boot_model.specs.PlanBoard.{board_of}
use Rattle.boot_core.proofs.handing_on.run_pei.Goals as goal

pub returns : goal.returns
returns c = c.run_pei_on.ensures (board_of c.args.plan.now c.args.catalog.now c.args.images) c.in_ok-store.ensures
