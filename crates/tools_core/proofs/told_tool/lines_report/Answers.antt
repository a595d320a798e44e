use Rattle.std.proofs.Common.{◌≡◌, ◌∙◌, ℕ, List, refl, subst, sym}
use Rattle.boot_core.specs.Examining.{IsImageRefusal}
use Rattle.tools_core.specs.{declared.command_line.TraceTool.TheVariants.Explain, declared.report.Report.Report, Ends.Tells}
use Rattle.tools_core.specs.declared.report.Report.TheVariants as R
use Rattle.tools_core.specs.TraceReport.{TraceReport, image_refused}
use Rattle.tools_core.proofs.told_tool.lines_report.Goals as goal

pub returns-in-Err-Refused : goal.returns-in-Err-Refused
returns-in-Err-Refused c = λ text checked trace.
    let plan = c.args.plan.now in
    let of_slice : IsImageRefusal plan c.as_slice.result.now c.in-Err-Refused.line = rw c.in-Err-Refused.field-0-is at c.in-Err-Refused.ensures.refused in
    let refused : IsImageRefusal plan c.args.images c.in-Err-Refused.line = subst (λ (x : List (List ℕ)). IsImageRefusal plan x c.in-Err-Refused.line) c.as_slice.ensures of_slice in
    let report : c.image_report.result ≡ R.Image refused.fault = c.image_report.ensures refused.fault (c.in-Err-Refused.line-is ∙ refused.line_is) in
    let P : Report → Type 0 = λ r. Tells (TraceReport Explain plan c.args.images text) r in
    subst P (sym report) (image_refused refused.fault refused.is refl refl, refl)
