use Rattle.std.proofs.Common.{ℕ, List, refl}
use Rattle.boot_plan.specs.declared.plan.Plan.{Plan}
use Rattle.mod_catalog.specs.declared.catalogue.Catalog.{Catalog}
use Rattle.boot_model.specs.{FreeRun.AreFreeLines, PlanBoard.board_of}
use Rattle.recorded_boot.specs.declared.trace.verdict.Verdict.{Verdict}
use Rattle.recorded_boot.specs.declared.trace.verdict.Verdict.TheVariants.{Yes, No}
use Rattle.recorded_boot.specs.Verdict.{IsVerdict}
use Rattle.tools_core.specs.CheckReport.{VerdictReport, no, yes}
use Rattle.tools_core.specs.{Refusals.verdict_line, ReportText.verdict_status}
use Rattle.tools_core.specs.TraceReport.{image_refused, said, twins}
use Rattle.tools_core.proofs.check_tool.check_report.Goals as goal

-- the verdict on a catalogue, as it is reported
verdict_told : (plan : Plan) (images : List (List ℕ)) (catalog : Catalog) (text : List ℕ) (verdict : Verdict) → IsVerdict (AreFreeLines (board_of plan catalog images) catalog plan.fuel) text verdict
    → VerdictReport plan images catalog text (verdict_status verdict) (verdict_line verdict)
verdict_told plan images catalog text Yes is = yes is refl refl
verdict_told plan images catalog text (No line) is = no line is refl refl

pub returns-in-Ok : goal.returns-in-Ok
returns-in-Ok c =
    let job = c.args.job in
    let verdict = c.in-Ok.verdict in
    let is = c.in-Ok.ensures in
    (said is.catalog is.sound is.apart (verdict_told job.plan job.images is.catalog c.args.text.now verdict is.is), refl)

pub returns-in-Err-Image : goal.returns-in-Err-Image
returns-in-Err-Image c =
    let fault = c.in-Err-Image.fault in
    (image_refused fault (rw c.in-Err-Image.field-0-is at c.in-Err-Image.ensures) refl refl, refl)

pub returns-in-Err-Twins : goal.returns-in-Err-Twins
returns-in-Err-Twins c =
    let volume = c.in-Err-Twins.volume in
    let is = rw c.in-Err-Twins.field-0-is at c.in-Err-Twins.ensures in
    (twins is.catalog is.sound volume is.is refl refl, refl)
