use Rattle.boot_core.specs.{Job.IsNamedIn, Reading.FilesTrail}
use Rattle.tools_core.specs.{FollowReport.FollowReport, FollowReport.OrderTextsOutcome, JobOutcome.job_read}
use Rattle.tools_core.proofs.{Ending.told_reports, FileReports.job_refusal, FileReports.job_reports}
use Rattle.tools_core.proofs.follow_tool.with_texts.Goals as goal

pub report_of-requires : goal.report_of-requires
report_of-requires g c =
    let F = g.F.Files.faults in
    let told = g.F.Files.told c.args.files.now in
    let t : FilesTrail = record { before = F c.args.files.now; now = F c.job_of.new.files; missed = g.F.Files.missed c.job_of.new.files } in
    rw c.in-Err-Refused.line-is (job_refusal told c.args.content.now t c.in-Err-Refused.line (rw c.in-Err-Refused.field-0-is at c.in-Err-Refused.ensures.row))

pub returns-in-Err-Refused-clause-report : goal.returns-in-Err-Refused-clause-report
returns-in-Err-Refused-clause-report g c =
    let F = g.F.Files.faults in
    let told = g.F.Files.told c.args.files.now in
    let t : FilesTrail = record { before = F c.args.files.now; now = F c.job_of.new.files; missed = g.F.Files.missed c.job_of.new.files } in
    job_reports (λ plan images. FollowReport plan images c.args.text.now) told c.args.content.now t c.in-Err-Refused.line c.report_of.result
    (rw c.in-Err-Refused.field-0-is at c.in-Err-Refused.ensures.row) (rw c.in-Err-Refused.line-is at c.report_of.ensures)

pub returns-in-Ok-clause-report : goal.returns-in-Ok-clause-report
returns-in-Ok-clause-report g c =
    let F = g.F.Files.faults in
    let told = g.F.Files.told c.args.files.now in
    let content = c.args.content.now in
    let text = c.args.text.now in
    let job = c.in-Ok.job in
    let row = c.in-Ok.ensures.row in
    told_reports c.follow_report.result (FollowReport job.plan job.images text) (OrderTextsOutcome told content text) (IsNamedIn told content)
    (record { before = F c.args.files.now; now = F c.job_of.new.files; missed = g.F.Files.missed c.job_of.new.files })
    (λ s t o. job_read job row.0 o) row.1 c.follow_report.ensures
