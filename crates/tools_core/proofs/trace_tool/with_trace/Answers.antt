use Rattle.std.proofs.Common.{◌≡◌, ℕ, List, Option, IfOk, ◌∙◌, subst}
use Rattle.boot_core.specs.{Job.IsNamedIn, Reading.plan_limit}
use Rattle.tools_core.specs.{FileReading.IsRead, FileReading.LongOutcome, Ends.Reports}
use Rattle.tools_core.specs.TraceReport.{TextsOutcome, TraceNames, TraceOutcome, both_read, is_trace, is_volume, trace_limit, trace_long}
use Rattle.tools_core.proofs.Ending.{reports_behind, reports_ok, reports_up}
use Rattle.tools_core.proofs.trace_tool.with_trace.Goals as goal

pub returns-in-Refused-2-clause-report : goal.returns-in-Refused-2-clause-report
returns-in-Refused-2-clause-report g c =
    let F = g.F.Files.faults in
    let told = g.F.Files.told c.args.files.now in
    let plan = c.args.plan.now in
    let trace = c.args.trace.now in
    let missed = g.F.Files.missed c.read_file-2.new.files in
    let content : IsRead (told plan) plan_limit c.in-Content.content × (F c.read_file.new.files ≡ F c.args.files.now) = rw c.in-Content.is at c.in_ok-content.ensures.reading in
    let P : Option (List ℕ) → Type 0 = λ told. Reports (LongOutcome told trace_limit trace) (λ n. n ≡ trace) c.in-Refused-2.report
    (record { before = F c.read_file.new.files; now = F c.read_file-2.new.files; missed = missed }) in
    let refused = subst P (c.read_file.ensures.same trace) (rw c.in-Refused-2.is at c.in_ok-text.ensures.reading) in
    reports_up (LongOutcome (told trace) trace_limit trace) (TraceOutcome c.args.tool told plan trace) (λ n. n ≡ trace) (TraceNames told plan trace) c.in-Refused-2.report
    (record { before = F c.args.files.now; now = F c.read_file-2.new.files; missed = missed })
    (λ s t o. trace_long c.in-Content.content content.0 o) (λ n e. is_trace c.in-Content.content content.0 e)
    (reports_behind (LongOutcome (told trace) trace_limit trace) (λ n. n ≡ trace) c.in-Refused-2.report (F c.args.files.now) (F c.read_file.new.files) (F c.read_file-2.new.files) missed content.1 refused)

pub returns-clause-report : goal.returns-clause-report
returns-clause-report g c =
    let F = g.F.Files.faults in
    let told = g.F.Files.told c.args.files.now in
    let mid = g.F.Files.told c.read_file-2.new.files in
    let plan = c.args.plan.now in
    let trace = c.args.trace.now in
    let texts = c.with_texts.result in
    let now = F c.with_texts.new.files in
    let missed = g.F.Files.missed c.with_texts.new.files in
    let told_same : mid ≡ told = λ j other. (c.read_file-2.ensures.same other ∙ c.read_file.ensures.same other) j in
    let content : IsRead (told plan) plan_limit c.in-Content.content × (F c.read_file.new.files ≡ F c.args.files.now) = rw c.in-Content.is at c.in_ok-content.ensures.reading in
    let P : Option (List ℕ) → Type 0 = λ content. IsRead content trace_limit c.in-Content-2.text × (F c.read_file-2.new.files ≡ F c.read_file.new.files) in
    let text = subst P (c.read_file.ensures.same trace) (rw c.in-Content-2.is at c.in_ok-text.ensures.reading) in
    let Q : (List ℕ → Option (List ℕ)) → Type 0 = λ t. IfOk texts (λ report. Reports (TextsOutcome c.args.tool t c.in-Content.content c.in-Content-2.text) (IsNamedIn t c.in-Content.content) report
    (record { before = F c.read_file-2.new.files; now = now; missed = missed })) in
    let here = subst Q told_same (rw c.as_slice.ensures at (rw c.as_slice-2.ensures at c.with_texts.ensures.report)) in
    let up = reports_ok texts (TextsOutcome c.args.tool told c.in-Content.content c.in-Content-2.text) (TraceOutcome c.args.tool told plan trace) (IsNamedIn told c.in-Content.content) (TraceNames told plan trace)
    (record { before = F c.read_file-2.new.files; now = now; missed = missed })
    (λ s t o. both_read c.in-Content.content c.in-Content-2.text content.0 text.0 o) (λ n m. is_volume c.in-Content.content c.in-Content-2.text content.0 text.0 m) here in
    let R : ℕ → Type 0 = λ n. IfOk texts (λ report. Reports (TraceOutcome c.args.tool told plan trace) (TraceNames told plan trace) report (record { before = n; now = now; missed = missed })) in
    subst R (text.1 ∙ content.1) up
