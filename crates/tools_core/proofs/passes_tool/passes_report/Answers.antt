use Rattle.std.proofs.Common.{ℕ, List, [], Some, refl, subst}
use Rattle.boot_model.specs.PlanBoard.{board_of}
use Rattle.recorded_boot.specs.Passes.{PassesTo}
use Rattle.tools_core.specs.PassesReport.{boots_so, wrong_image}
use Rattle.tools_core.proofs.passes_tool.passes_report.Goals as goal

pub returns-in-Ok : goal.returns-in-Ok
returns-in-Ok c =
    let job = c.args.job in
    let is = c.in-Ok.ensures.row in
    let passed = c.in-Ok.passed in
    let lines = c.passes.new.sink.text in
    let P : List ℕ → List ℕ → Type 0 = λ before text. PassesTo (board_of job.plan is.catalog job.images) is.catalog job.plan.fuel (record { old = Some before; new = Some text }) passed in
    let here : P [] lines = subst (λ before. P before lines) c.new-held.ensures.text is.is in
    (boots_so is.catalog is.sound passed lines here refl refl, refl)

pub returns-in-Err-Image : goal.returns-in-Err-Image
returns-in-Err-Image c =
    let fault = c.in-Err-Image.fault in
    let is = rw c.in-Err-Image.field-0-is at c.in-Err-Image.ensures.row in
    (wrong_image fault is.0 refl refl, refl)
