use Rattle.std.proofs.Common.{◌≡◌, refl, subst, sym}
use Rattle.boot_core.specs.{Examining.IsImageRefusal, HandOff.IsHandOff}
use Rattle.tools_core.specs.{declared.report.Report.Report, Ends.Tells}
use Rattle.tools_core.specs.declared.report.Report.TheVariants as R
use Rattle.tools_core.specs.HobsReport.{HobsReport, bad_image}
use Rattle.tools_core.proofs.HandedOn.{told}
use Rattle.tools_core.proofs.hobs_tool.hobs_report.Goals as goal

pub returns-in-Ok : goal.returns-in-Ok
returns-in-Ok c = let job = c.args.job in told (IsHandOff job.plan job.images) job.plan job.images c.in-Ok.handed c.told_hand_off.result c.told_hand_off.ensures c.in-Ok.ensures.handed

pub returns-in-Err-Refused : goal.returns-in-Err-Refused
returns-in-Err-Refused c =
    let job = c.args.job in
    let refused : IsImageRefusal job.plan job.images c.in-Err-Refused.line = rw c.in-Err-Refused.field-0-is at c.in-Err-Refused.ensures.refused in
    let report : c.image_report.result ≡ R.Image refused.fault = c.image_report.ensures refused.fault refused.line_is in
    let P : Report → Type 0 = λ r. Tells (HobsReport (IsHandOff job.plan job.images) job.plan job.images) r in
    subst P (sym report) (bad_image refused.fault refused.is refl refl, refl)
