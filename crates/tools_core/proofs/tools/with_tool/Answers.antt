use Rattle.std.proofs.Common.{◌≡◌, arith}
use Rattle.tools_core.specs.FileReading.{IsRead}
use Rattle.tools_core.specs.Outcome.{ContentReport, ToolOutcome, content, limit_of}
use Rattle.tools_core.proofs.Ending.{told_reports}
use Rattle.tools_core.proofs.tools.with_tool.Goals as goal

pub returns-in-Content-clause-report : goal.returns-in-Content-clause-report
returns-in-Content-clause-report g c =
    let F = g.F.Files.faults in
    let told = g.F.Files.told c.args.files.now c.args.file.now in
    let read : IsRead told (limit_of c.args.tool) c.in-Content.content × (F c.read_file.new.files ≡ F c.args.files.now) = rw c.limit_of.ensures.limit at (rw c.in-Content.is at c.in_ok-content.ensures.reading) in
    told_reports c.content_report.result (ContentReport c.args.tool c.in-Content.content) (ToolOutcome told c.args.tool c.args.file.now) (λ name. name ≡ c.args.file.now)
    (record { before = F c.args.files.now; now = F c.read_file.new.files; missed = g.F.Files.missed c.read_file.new.files })
    (λ s t o. content c.in-Content.content read.0 o) read.1 (rw c.as_slice.ensures at c.content_report.ensures)

pub content_report-requires : goal.content_report-requires
content_report-requires g c =
    let F = g.F.Files.faults in
    let told = g.F.Files.told c.args.files.now c.args.file.now in
    let read : IsRead told c.limit_of.result c.in-Content.content × (F c.read_file.new.files ≡ F c.args.files.now) = rw c.in-Content.is at c.in_ok-content.ensures.reading in
    let most = c.limit_of.ensures.most in
    let len = read.0.within in
    let same = c.as_slice.ensures in
    rw same (omega (arith, most, len))
