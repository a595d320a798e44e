use Rattle.boot_core.specs.Reading.{FilesTrail}
use Rattle.tools_core.proofs.FileReports.{file_refusal, file_reports}
use Rattle.tools_core.proofs.reading.read_file.Goals as goal

pub report_of-requires : goal.report_of-requires
report_of-requires g c =
    let F = g.F.Files.faults in
    let name = c.args.name.now in
    let t : FilesTrail = record { before = F c.args.files.now; now = F c.read_file.new.files; missed = g.F.Files.missed c.read_file.new.files } in
    file_refusal (g.F.Files.told c.args.files.now name) c.args.limit name t c.in-Err-Refused.line (rw c.in-Err-Refused.field-0-is at c.in-Err-Refused.ensures.row)

pub returns-in-Err-Refused-clause-reading : goal.returns-in-Err-Refused-clause-reading
returns-in-Err-Refused-clause-reading g c =
    let F = g.F.Files.faults in
    let name = c.args.name.now in
    let t : FilesTrail = record { before = F c.args.files.now; now = F c.read_file.new.files; missed = g.F.Files.missed c.read_file.new.files } in
    file_reports (g.F.Files.told c.args.files.now name) c.args.limit name t c.in-Err-Refused.line c.report_of.result
    (rw c.in-Err-Refused.field-0-is at c.in-Err-Refused.ensures.row) c.report_of.ensures
