use Rattle.boot_model.specs.PlanBoard.{board_of}
use Rattle.std.proofs.Common.{[]}
use Rattle.recorded_boot.proofs.follow.images.follow_over.Goals as goal

pub returns-in-Ok-clause-row : goal.returns-in-Ok-clause-row
returns-in-Ok-clause-row g c = c.follow_boot.ensures.row (record (board_of c.args.plan.now c.args.by.now.catalog.now []) { roms = c.args.roms }) c.in-Ok.ensures
