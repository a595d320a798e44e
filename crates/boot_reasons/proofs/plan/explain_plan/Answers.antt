use Rattle.boot_model.specs.PlanBoard.{board_of}
use Rattle.boot_reasons.proofs.Phases.{own_goes_on}
use Rattle.boot_reasons.proofs.plan.explain_plan.Goals as goal

pub returns : goal.returns
returns c = rw c.in-End.is at c.in_ok-explained.ensures

pub unreachable-requires : goal.unreachable-requires
unreachable-requires c = own_goes_on (board_of c.args.plan.now c.args.catalog.now c.args.images) c.args.catalog.now c.args.plan.now.fuel c.in-Barred.field-0 (rw c.in-Barred.is at c.in_ok-explained.ensures)
