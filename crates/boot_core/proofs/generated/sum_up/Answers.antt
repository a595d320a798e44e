use Rattle.std.proofs.Common.{IfOk, List, ℕ, subst}
use Rattle.boot_plan.specs.declared.plan.Plan.{Plan}
use Rattle.boot_model.specs.PlanBoard.{board_of}
use Rattle.boot_core.specs.{GeneratedOutcome.generated_images, Summing.IsSummaryBy}
use Rattle.boot_core.proofs.generated.sum_up.Goals as goal

pub returns : goal.returns
returns c =
    let n = c.args.n in
    let catalog = c.args.catalog.now in
    let P : Plan → List (List ℕ) → Type 0 = λ plan images. IfOk c.sum_up_on.result (IsSummaryBy n (board_of plan catalog images) catalog plan.fuel) in
    subst (λ plan. P plan (generated_images n)) c.requires.job.plan_is (subst (P c.args.plan.now) c.requires.job.images_are
    (c.sum_up_on.ensures (board_of c.args.plan.now catalog c.args.images) c.in_ok-store.ensures))
