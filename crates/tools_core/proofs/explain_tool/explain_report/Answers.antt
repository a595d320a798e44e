use Rattle.std.proofs.Common.{◌≡◌, ◌∙◌, ℕ, List, refl, subst, sym}
use Rattle.boot_core.specs.Examining.{IsImageRefusal}
use Rattle.mod_catalog.specs.Catalogue.{IsCatalogue}
use Rattle.tools_core.specs.{declared.report.Report.Report, Ends.Tells}
use Rattle.tools_core.specs.declared.report.Report.TheVariants as R
use Rattle.tools_core.specs.ExplainReport.{ExplainReport, explained_so, faulty_image}
use Rattle.tools_core.proofs.explain_tool.explain_report.Goals as goal

pub returns-in-Err-Refused : goal.returns-in-Err-Refused
returns-in-Err-Refused c =
    let job = c.args.job in
    let of_slice : IsImageRefusal job.plan c.as_slice.result.now c.in-Err-Refused.line = rw c.in-Err-Refused.field-0-is at c.in-Err-Refused.ensures.refused in
    let refused : IsImageRefusal job.plan job.images c.in-Err-Refused.line = subst (λ (x : List (List ℕ)). IsImageRefusal job.plan x c.in-Err-Refused.line) c.as_slice.ensures of_slice in
    let report : c.image_report.result ≡ R.Image refused.fault = c.image_report.ensures refused.fault (c.in-Err-Refused.line-is ∙ refused.line_is) in
    let P : Report → Type 0 = λ r. Tells (ExplainReport job.plan job.images) r in
    subst P (sym report) (faulty_image refused.fault refused.is refl refl, refl)

pub returns-in-Ok : goal.returns-in-Ok
returns-in-Ok c =
    let job = c.args.job in
    let sound = subst (λ (x : List (List ℕ)). IsCatalogue job.plan x c.in-Ok.catalog) c.as_slice.ensures c.in-Ok.ensures.found.sound in
    (explained_so c.in-Ok.catalog sound c.in_ok-explanation-in-Ok.ensures refl, refl)
