use Rattle.std.proofs.Common.{[]}
use Rattle.boot_model.specs.PlanBoard.{board_of}
use Rattle.recorded_boot.proofs.trace.checking.verdict_over.Goals as goal

pub returns-in-Ok : goal.returns-in-Ok
returns-in-Ok c = c.verdict_from.ensures (record (board_of c.args.plan.now c.args.catalog.now []) { roms = c.args.roms }) c.in-Ok.ensures
