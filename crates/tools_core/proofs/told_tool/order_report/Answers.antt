use Rattle.std.proofs.Common.{◌≡◌, refl, ap, subst}
use Rattle.boot_model.specs.{FreeRun.AreFreeLines, PlanBoard.board_of}
use Rattle.mod_catalog.specs.declared.catalogue.Catalog.{Catalog}
use Rattle.recorded_boot.specs.{Verdict.IsBoot, Named.IsFirstWithTwins, declared.order.lines.StartOrder.StartOrder}
use Rattle.tools_core.specs.{ExplainReport.IsExplanation, Refusals.twins_line, ToldReport.RunsInOrder, ToldReport.runs_so}
use Rattle.tools_core.specs.TraceReport.{said, twins}
use Rattle.tools_core.proofs.told_tool.order_report.Goals as goal

pub returns-in-Err-Twins : goal.returns-in-Err-Twins
returns-in-Err-Twins c = λ text checked trace.
    let is : IsFirstWithTwins c.args.catalog.now c.in-Err-Twins.volume = rw c.in-Err-Twins.field-0-is at c.in-Err-Twins.ensures.twins in
    (twins c.args.catalog.now c.requires.examined.sound c.in-Err-Twins.volume is refl (ap twins_line c.in-Err-Twins.volume-is), refl)

pub returns : goal.returns
returns c = λ text checked trace.
    let plan = c.args.plan.now in
    let images = c.args.images in
    let catalog = c.args.catalog.now in
    let sound = c.requires.examined.sound in
    let same : checked.catalog ≡ catalog = c.one_catalogue.ensures.catalogues plan images checked.catalog catalog checked.sound sound in
    let P : Catalog → Type 0 = λ x. IsBoot (AreFreeLines (board_of plan x images) x plan.fuel) text in
    let Q : StartOrder → Type 0 = λ order. IsExplanation (RunsInOrder plan images catalog order) images catalog c.in_ok-explanation.field-0 in
    (said catalog sound c.in-Ok.ensures.apart (runs_so (subst P same checked.is) c.args.lines.now trace (subst Q c.in_ok-order.ensures c.in_ok-explanation.ensures) refl), refl)
