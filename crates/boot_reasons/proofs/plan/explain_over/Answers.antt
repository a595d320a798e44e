use Rattle.std.proofs.Common.{[]}
use Rattle.boot_model.specs.PlanBoard.{board_of}
use Rattle.boot_reasons.proofs.plan.explain_over.Goals as goal

pub returns-in-Ok : goal.returns-in-Ok
returns-in-Ok g c = c.explain_by.ensures (record (board_of c.args.plan.now c.args.catalog.now []) { roms = c.args.roms }) c.in-Ok.ensures
