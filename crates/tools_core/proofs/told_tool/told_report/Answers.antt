use Rattle.std.proofs.Common.{ℕ, List, refl, ap, ◌∙◌, subst}
use Rattle.mod_catalog.specs.ImageFault.{IsImageFault}
use Rattle.recorded_boot.specs.{Checking.HasTwins, Checking.IsChecked, declared.trace.verdict.Verdict.TheVariants.No}
use Rattle.tools_core.specs.{Refusals.image_line, Refusals.twins_line, ToldReport.goes_wrong}
use Rattle.tools_core.specs.TraceReport.{image_refused, said, twins}
use Rattle.tools_core.proofs.told_tool.told_report.Goals as goal

pub returns-in-Ok-No : goal.returns-in-Ok-No
returns-in-Ok-No c =
    let plan = c.args.job.plan in
    let same = c.in_ok-copies.ensures ∙ c.as_slice.ensures in
    let told : IsChecked plan c.in_ok-copies.copies c.args.text.now (No c.in-Ok-No.line) = rw c.in-Ok-No.field-0-is at c.in-Ok-No.ensures in
    let is : IsChecked plan c.args.job.images c.args.text.now (No c.in-Ok-No.line) = subst (λ (x : List (List ℕ)). IsChecked plan x c.args.text.now (No c.in-Ok-No.line)) same told in
    (said is.catalog is.sound is.apart (goes_wrong c.in-Ok-No.line is.is refl refl), refl)

pub returns-in-Err-Image : goal.returns-in-Err-Image
returns-in-Err-Image c =
    let plan = c.args.job.plan in
    let same = c.in_ok-copies.ensures ∙ c.as_slice.ensures in
    let fault = c.in-Err-Image.fault in
    let told : IsImageFault plan c.in_ok-copies.copies fault = rw c.in-Err-Image.field-0-is at c.in-Err-Image.ensures in
    (image_refused fault (subst (λ (x : List (List ℕ)). IsImageFault plan x fault) same told) refl (ap image_line c.in-Err-Image.fault-is), refl)

pub returns-in-Err-Twins : goal.returns-in-Err-Twins
returns-in-Err-Twins c =
    let plan = c.args.job.plan in
    let same = c.in_ok-copies.ensures ∙ c.as_slice.ensures in
    let volume = c.in-Err-Twins.volume in
    let told : HasTwins plan c.in_ok-copies.copies volume = rw c.in-Err-Twins.field-0-is at c.in-Err-Twins.ensures in
    let is = subst (λ (x : List (List ℕ)). HasTwins plan x volume) same told in
    (twins is.catalog is.sound volume is.is refl (ap twins_line c.in-Err-Twins.volume-is), refl)
