use Rattle.std.proofs.Common.{◌≡◌, ℕ, List, Option, inr, ◌∙◌, subst}
use Rattle.tools_core.specs.{FileReading.IsRead, FileReading.LongOutcome, Ends.Reports, GcdReport.GcdReport}
use Rattle.tools_core.specs.Outcome.{MapNames, MapOutcome, both, commands_limit, commands_long, file_limit}
use Rattle.tools_core.proofs.Ending.{reports_behind, reports_up, told_reports}
use Rattle.tools_core.proofs.tools.with_map.Goals as goal

pub returns-in-Refused-2-clause-report : goal.returns-in-Refused-2-clause-report
returns-in-Refused-2-clause-report g c =
    let F = g.F.Files.faults in
    let told = g.F.Files.told c.args.files.now in
    let hobs = c.args.hobs.now in
    let commands = c.args.commands.now in
    let missed = g.F.Files.missed c.read_file-2.new.files in
    let bytes : IsRead (told hobs) file_limit c.in-Content.bytes × (F c.read_file.new.files ≡ F c.args.files.now) = rw c.in-Content.is at c.in_ok-bytes.ensures.reading in
    let P : Option (List ℕ) → Type 0 = λ content. Reports (LongOutcome content commands_limit commands) (λ n. n ≡ commands) c.in-Refused-2.report
    (record { before = F c.read_file.new.files; now = F c.read_file-2.new.files; missed = missed }) in
    let refused = subst P (c.read_file.ensures.same commands) (rw c.in-Refused-2.is at c.in_ok-lines.ensures.reading) in
    reports_up (LongOutcome (told commands) commands_limit commands) (MapOutcome told hobs commands) (λ n. n ≡ commands) (MapNames told hobs commands) c.in-Refused-2.report
    (record { before = F c.args.files.now; now = F c.read_file-2.new.files; missed = missed })
    (λ s t o. commands_long c.in-Content.bytes bytes.0 o) (λ n e. inr (c.in-Content.bytes, bytes.0, e))
    (reports_behind (LongOutcome (told commands) commands_limit commands) (λ n. n ≡ commands) c.in-Refused-2.report (F c.args.files.now) (F c.read_file.new.files) (F c.read_file-2.new.files) missed bytes.1 refused)

pub returns-clause-report : goal.returns-clause-report
returns-clause-report g c =
    let F = g.F.Files.faults in
    let told = g.F.Files.told c.args.files.now in
    let hobs = c.args.hobs.now in
    let commands = c.args.commands.now in
    let bytes : IsRead (told hobs) file_limit c.in-Content.bytes × (F c.read_file.new.files ≡ F c.args.files.now) = rw c.in-Content.is at c.in_ok-bytes.ensures.reading in
    let P : Option (List ℕ) → Type 0 = λ content. IsRead content commands_limit c.in-Content-2.lines × (F c.read_file-2.new.files ≡ F c.read_file.new.files) in
    let lines = subst P (c.read_file.ensures.same commands) (rw c.in-Content-2.is at c.in_ok-lines.ensures.reading) in
    told_reports c.map_report.result (GcdReport c.in-Content.bytes c.in-Content-2.lines) (MapOutcome told hobs commands) (MapNames told hobs commands)
    (record { before = F c.args.files.now; now = F c.read_file-2.new.files; missed = g.F.Files.missed c.read_file-2.new.files })
    (λ s t o. both c.in-Content.bytes c.in-Content-2.lines bytes.0 lines.0 o) (lines.1 ∙ bytes.1) (rw c.as_slice.ensures at (rw c.as_slice-2.ensures at c.map_report.ensures))
