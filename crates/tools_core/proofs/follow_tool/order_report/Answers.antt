use Rattle.std.proofs.Common.{ℕ, List, [], Some, Ok, refl, subst}
use Rattle.boot_model.specs.PlanBoard.{board_of}
use Rattle.recorded_boot.specs.Answer.{FollowsTo}
use Rattle.tools_core.specs.FollowReport.{boots, image_refused, twins}
use Rattle.tools_core.proofs.follow_tool.order_report.Goals as goal

pub returns-in-Ok : goal.returns-in-Ok
returns-in-Ok c =
    let job = c.args.job in
    let is = c.in-Ok.ensures.row in
    let followed = c.in-Ok.followed in
    let lines = c.follow.new.sink.text in
    let P : List ℕ → List ℕ → Type 0 = λ before text. FollowsTo (board_of job.plan is.catalog job.images) is.catalog job.plan.fuel c.args.order.now (record { old = Some before; new = Some text }) (Ok followed) in
    let here : P [] lines = subst (λ before. P before lines) c.new-held.ensures.text is.is in
    (boots is.catalog is.sound is.apart followed lines here refl refl, refl)

pub returns-in-Err-Image : goal.returns-in-Err-Image
returns-in-Err-Image c =
    let fault = c.in-Err-Image.fault in
    let is = rw c.in-Err-Image.field-0-is at c.in-Err-Image.ensures.row in
    (image_refused fault is.0 refl refl, refl)

pub returns-in-Err-Twins : goal.returns-in-Err-Twins
returns-in-Err-Twins c =
    let volume = c.in-Err-Twins.volume in
    let is = rw c.in-Err-Twins.field-0-is at c.in-Err-Twins.ensures.row in
    (twins is.0.catalog is.0.sound volume is.0.is refl refl, refl)
