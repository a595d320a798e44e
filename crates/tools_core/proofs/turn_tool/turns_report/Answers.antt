use Rattle.std.proofs.Common.{◌∙◌, ℕ, List, IfOk, refl, ap, subst, ◌++◌}
use Rattle.mod_catalog.specs.ImageFault.{IsImageFault}
use Rattle.recorded_boot.specs.declared.passes.Passed.TheVariants as P
use Rattle.tools_core.specs.{Ends.Tells, FollowText.passed_text, Refusals.image_line}
use Rattle.tools_core.specs.TurnsReport.{TextExplained, TurnsReport, in_turns_so, unsound_image}
use Rattle.tools_core.proofs.{Ending.tells_up, Turning.passed_so}
use Rattle.tools_core.proofs.turn_tool.turns_report.Goals as goal

pub returns-in-Ok-Ended : goal.returns-in-Ok-Ended
returns-in-Ok-Ended c =
    let job = c.args.job in
    let text = c.passes.new.sink.text in
    let passed = P.Ended c.in-Ok-Ended.field-0-0 in
    let is = rw c.in-Ok-Ended.field-0-is at c.in-Ok-Ended.ensures.row in
    let so = passed_so job.plan c.in_ok-copies.copies job.images c.new-held.result.text text passed (c.in_ok-copies.ensures ∙ c.as_slice.ensures) c.new-held.ensures.text is in
    let Told : List ℕ → Type 0 = λ x. IfOk c.text_report.result (Tells (TextExplained job.plan job.images x)) in
    tells_up c.text_report.result (TextExplained job.plan job.images text) (TurnsReport job.plan job.images) (λ status out told. in_turns_so so.0 so.1 passed text so.2 told) (subst Told c.as_slice-in-Ok-Ended.ensures c.text_report.ensures)

pub returns-in-Ok-No : goal.returns-in-Ok-No
returns-in-Ok-No c =
    let job = c.args.job in
    let text = c.passes.new.sink.text in
    let passed = P.No c.in-Ok-No.turn in
    let is = rw c.in-Ok-No.field-0-is at c.in-Ok-No.ensures.row in
    let so = passed_so job.plan c.in_ok-copies.copies job.images c.new-held.result.text text passed (c.in_ok-copies.ensures ∙ c.as_slice.ensures) c.new-held.ensures.text is in
    (in_turns_so so.0 so.1 passed text so.2 (refl, ap (λ (front : List ℕ). front ++ passed_text passed) c.new.ensures), refl)

pub returns-in-Err-Image : goal.returns-in-Err-Image
returns-in-Err-Image c =
    let job = c.args.job in
    let fault = c.in-Err-Image.fault in
    let is = rw c.in-Err-Image.field-0-is at c.in-Err-Image.ensures.row in
    (unsound_image fault (subst (λ (x : List (List ℕ)). IsImageFault job.plan x fault) (c.in_ok-copies.ensures ∙ c.as_slice.ensures) is.0) refl (ap image_line c.in-Err-Image.fault-is), refl)
