use Rattle.std.proofs.Common.{IfOk, sym, subst}
use Rattle.boot_core.specs.{Job.IsNamedIn, Reading.FilesTrail}
use Rattle.tools_core.specs.{declared.command_line.PlanTool.PlanTool, Ends.Tells, PlanReport.PlanReport}
use Rattle.tools_core.specs.JobOutcome.{JobOutcome, job_read}
use Rattle.tools_core.proofs.{Ending.told_reports, FileReports.job_refusal, FileReports.job_reports}
use Rattle.tools_core.proofs.plan_tool.with_text.Goals as goal

pub report_of-requires : goal.report_of-requires
report_of-requires g c =
    let F = g.F.Files.faults in
    let told = g.F.Files.told c.args.files.now in
    let t : FilesTrail = record { before = F c.args.files.now; now = F c.job_of.new.files; missed = g.F.Files.missed c.job_of.new.files } in
    rw c.in-Err-Refused.line-is (job_refusal told c.args.content.now t c.in-Err-Refused.line (rw c.in-Err-Refused.field-0-is at c.in-Err-Refused.ensures.row))

pub returns-in-Err-Refused-clause-report : goal.returns-in-Err-Refused-clause-report
returns-in-Err-Refused-clause-report g c =
    let F = g.F.Files.faults in
    let told = g.F.Files.told c.args.files.now in
    let t : FilesTrail = record { before = F c.args.files.now; now = F c.job_of.new.files; missed = g.F.Files.missed c.job_of.new.files } in
    job_reports (PlanReport c.args.tool) told c.args.content.now t c.in-Err-Refused.line c.report_of.result
    (rw c.in-Err-Refused.field-0-is at c.in-Err-Refused.ensures.row) (rw c.in-Err-Refused.line-is at c.report_of.ensures)

pub returns-in-Hobs-clause-report : goal.returns-in-Hobs-clause-report
returns-in-Hobs-clause-report g c =
    let F = g.F.Files.faults in
    let told = g.F.Files.told c.args.files.now in
    let content = c.args.content.now in
    let job = c.in-Ok.job in
    let row = c.in-Ok.ensures.row in
    let P : PlanTool → Type 0 = λ tool. IfOk c.hobs_report.result (Tells (PlanReport tool job.plan job.images)) in
    told_reports c.hobs_report.result (PlanReport c.args.tool job.plan job.images) (JobOutcome (PlanReport c.args.tool) told content) (IsNamedIn told content)
    (record { before = F c.args.files.now; now = F c.job_of.new.files; missed = g.F.Files.missed c.job_of.new.files })
    (λ s t o. job_read job row.0 o) row.1 (subst P (sym c.in-Hobs.is) c.hobs_report.ensures)

pub returns-in-HobsInTurns-clause-report : goal.returns-in-HobsInTurns-clause-report
returns-in-HobsInTurns-clause-report g c =
    let F = g.F.Files.faults in
    let told = g.F.Files.told c.args.files.now in
    let content = c.args.content.now in
    let job = c.in-Ok.job in
    let row = c.in-Ok.ensures.row in
    let P : PlanTool → Type 0 = λ tool. IfOk c.turn_hobs_report.result (Tells (PlanReport tool job.plan job.images)) in
    told_reports c.turn_hobs_report.result (PlanReport c.args.tool job.plan job.images) (JobOutcome (PlanReport c.args.tool) told content) (IsNamedIn told content)
    (record { before = F c.args.files.now; now = F c.job_of.new.files; missed = g.F.Files.missed c.job_of.new.files })
    (λ s t o. job_read job row.0 o) row.1 (subst P (sym c.in-HobsInTurns.is) c.turn_hobs_report.ensures)

pub returns-in-Reasons-clause-report : goal.returns-in-Reasons-clause-report
returns-in-Reasons-clause-report g c =
    let F = g.F.Files.faults in
    let told = g.F.Files.told c.args.files.now in
    let content = c.args.content.now in
    let job = c.in-Ok.job in
    let row = c.in-Ok.ensures.row in
    let P : PlanTool → Type 0 = λ tool. IfOk c.explain_report.result (Tells (PlanReport tool job.plan job.images)) in
    told_reports c.explain_report.result (PlanReport c.args.tool job.plan job.images) (JobOutcome (PlanReport c.args.tool) told content) (IsNamedIn told content)
    (record { before = F c.args.files.now; now = F c.job_of.new.files; missed = g.F.Files.missed c.job_of.new.files })
    (λ s t o. job_read job row.0 o) row.1 (subst P (sym c.in-Reasons.is) c.explain_report.ensures)

pub returns-in-ReasonsInTurns-clause-report : goal.returns-in-ReasonsInTurns-clause-report
returns-in-ReasonsInTurns-clause-report g c =
    let F = g.F.Files.faults in
    let told = g.F.Files.told c.args.files.now in
    let content = c.args.content.now in
    let job = c.in-Ok.job in
    let row = c.in-Ok.ensures.row in
    let P : PlanTool → Type 0 = λ tool. IfOk c.turns_report.result (Tells (PlanReport tool job.plan job.images)) in
    told_reports c.turns_report.result (PlanReport c.args.tool job.plan job.images) (JobOutcome (PlanReport c.args.tool) told content) (IsNamedIn told content)
    (record { before = F c.args.files.now; now = F c.job_of.new.files; missed = g.F.Files.missed c.job_of.new.files })
    (λ s t o. job_read job row.0 o) row.1 (subst P (sym c.in-ReasonsInTurns.is) c.turns_report.ensures)

pub returns-in-Passes-clause-report : goal.returns-in-Passes-clause-report
returns-in-Passes-clause-report g c =
    let F = g.F.Files.faults in
    let told = g.F.Files.told c.args.files.now in
    let content = c.args.content.now in
    let job = c.in-Ok.job in
    let row = c.in-Ok.ensures.row in
    let P : PlanTool → Type 0 = λ tool. IfOk c.passes_report.result (Tells (PlanReport tool job.plan job.images)) in
    told_reports c.passes_report.result (PlanReport c.args.tool job.plan job.images) (JobOutcome (PlanReport c.args.tool) told content) (IsNamedIn told content)
    (record { before = F c.args.files.now; now = F c.job_of.new.files; missed = g.F.Files.missed c.job_of.new.files })
    (λ s t o. job_read job row.0 o) row.1 (subst P (sym c.in-Passes.is) c.passes_report.ensures)
