use Rattle.std.proofs.Common.{ℕ, List, Result, Ok, Err, IfOk, arith, refl}
use Rattle.pi_base.specs.declared.memory.OutOfMemory.{OutOfMemory}
use Rattle.boot_plan.specs.declared.plan.Plan.{Plan}
use Rattle.recorded_boot.specs.{declared.order.lines.StartOrder.StartOrder, OrderText.IsOrder}
use Rattle.tools_core.specs.{declared.report.Report.Report, Ends.Tells}
use Rattle.tools_core.specs.FollowReport.{FollowReport, OrderReport, bad_order, in_order}
use Rattle.tools_core.proofs.follow_tool.follow_report.Goals as goal

-- what an order leads to, its text does
of_text : (result : Result Report OutOfMemory) (plan : Plan) (images : List (List ℕ)) (text : List ℕ) (order : StartOrder) → IsOrder text order → IfOk result (Tells (OrderReport plan images order)) → IfOk result (Tells (FollowReport plan images text))
of_text (Ok report) plan images text order is tells = (in_order order is tells.0, tells.1)
of_text (Err e) plan images text order is tells = tt

pub returns-in-Ok : goal.returns-in-Ok
returns-in-Ok c = of_text c.order_report.result c.args.job.plan c.args.job.images c.args.text.now c.in-Ok.order c.in-Ok.ensures.order c.order_report.ensures

pub returns-in-Err-Bad : goal.returns-in-Err-Bad
returns-in-Err-Bad c = rw c.in-Err-Bad.line-is (bad_order c.in-Err-Bad.line (rw c.in-Err-Bad.field-0-is at c.in-Err-Bad.ensures.fault) refl refl, refl)

pub order_report-requires-clause-few : goal.order_report-requires-clause-few
order_report-requires-clause-few c =
    let few = c.one_reading.ensures.short c.args.text.now c.in-Ok.order c.in-Ok.ensures.order in
    let short = c.requires.text in
    omega (arith, few, short)
