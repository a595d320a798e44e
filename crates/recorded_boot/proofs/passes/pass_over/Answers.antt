use Rattle.boot_model.specs.PlanBoard.{board_of}
use Rattle.recorded_boot.proofs.passes.pass_over.Goals as goal

pub returns-in-Ok-pass_boot-clause-row : goal.returns-in-Ok-pass_boot-clause-row
returns-in-Ok-pass_boot-clause-row g c = rw c.in-Ok-pass_boot.is at (c.pass_boot.ensures.row (board_of c.args.plan.now c.args.catalog.now c.args.images) c.in-Ok.ensures)
