use Rattle.std.proofs.Common.{◌≡◌, ℕ, List, Option, IfOk, subst}
use Rattle.boot_core.specs.{Job.IsNamedIn, Reading.plan_limit}
use Rattle.tools_core.specs.{Ends.Reports, FileReading.IsRead, JobOutcome.JobOutcome}
use Rattle.tools_core.specs.PlanReport.{PlanNames, PlanOutcome, PlanReport, names_a_volume, text_read}
use Rattle.tools_core.proofs.Ending.{reports_ok}
use Rattle.tools_core.proofs.plan_tool.with_plan.Goals as goal

pub returns-clause-report : goal.returns-clause-report
returns-clause-report g c =
    let F = g.F.Files.faults in
    let told = g.F.Files.told c.args.files.now in
    let mid = g.F.Files.told c.read_file.new.files in
    let tool = c.args.tool in
    let plan = c.args.plan.now in
    let made = c.with_text.result in
    let now = F c.with_text.new.files in
    let missed = g.F.Files.missed c.with_text.new.files in
    let told_same : mid ≡ told = λ j other. (c.read_file.ensures.same other) j in
    let content : IsRead (told plan) plan_limit c.in-Content.content × (F c.read_file.new.files ≡ F c.args.files.now) = rw c.in-Content.is at c.in_ok-content.ensures.reading in
    let Q : (List ℕ → Option (List ℕ)) → Type 0 = λ t. IfOk made (λ report. Reports (JobOutcome (PlanReport tool) t c.in-Content.content) (IsNamedIn t c.in-Content.content) report
    (record { before = F c.read_file.new.files; now = now; missed = missed })) in
    let here = subst Q told_same (rw c.as_slice.ensures at c.with_text.ensures.report) in
    let up = reports_ok made (JobOutcome (PlanReport tool) told c.in-Content.content) (PlanOutcome tool told plan) (IsNamedIn told c.in-Content.content) (PlanNames told plan)
    (record { before = F c.read_file.new.files; now = now; missed = missed })
    (λ s t o. text_read c.in-Content.content content.0 o) (λ n m. names_a_volume c.in-Content.content content.0 m) here in
    let R : ℕ → Type 0 = λ n. IfOk made (λ report. Reports (PlanOutcome tool told plan) (PlanNames told plan) report (record { before = n; now = now; missed = missed })) in
    subst R content.1 up
