-- How a call ends, from the report that it puts.
use Rattle.std.proofs.Common.{◌≡◌, ℕ, List, Option, Result, Ok, Err, refl, sym, subst, IfOk}
use Rattle.pi_base.specs.declared.memory.OutOfMemory.{OutOfMemory}
use Rattle.boot_io.specs.{declared.sink.SinkFault.SinkFault, Sink.Puts, Sink.SinkFaultsAfter}
use Rattle.tools_core.specs.{declared.report.Report.Report, declared.status.ToolStatus.ToolStatus}
use Rattle.recorded_boot.specs.declared.follow.followed.Followed.TheVariants as F
use Rattle.recorded_boot.specs.declared.passes.Passed.TheVariants as Q
use Rattle.tools_core.specs.declared.report.Report.TheVariants as R
use Rattle.tools_core.specs.{declared.status.ToolStatus.TheVariants.Done, FileReading.FilesTrail}
use Rattle.boot_model.specs.declared.line.RunEnd.TheVariants as E
use Rattle.recorded_boot.specs.declared.trace.verdict.Verdict.TheVariants.{Yes, No}
use Rattle.tools_core.specs.Ends.{Answered, At, Ends, EndsBy, Failing, IsDue, Kind, Nowhere, OfText, Reports, ReportsBy, SinkFailed, Tells, Trail, failing, kind_of, outcome, status_after, unread}
use Rattle.tools_core.specs.ReportText.{report_status, report_text}

-- a text that is made answers with Done
pub answered : (result : Result Report OutOfMemory) (Out : ToolStatus → List ℕ → Type 0) (text : List ℕ) → IfOk result (λ report. report ≡ R.Answer text) → Out Done text
    → IfOk result (Tells Out)
answered (Ok report) Out text is out = subst (Tells Out) (sym is) (out, refl)
answered (Err e) Out text is out = tt

-- what is told of an outcome is told of one that has it
pub tells_up : (result : Result Report OutOfMemory) (Out Out' : ToolStatus → List ℕ → Type 0) → ((s : ToolStatus) (text : List ℕ) → Out s text → Out' s text) → IfOk result (Tells Out) → IfOk result (Tells Out')
tells_up (Ok report) Out Out' up told = (up (report_status report) (report_text report) told.0, told.1)
tells_up (Err e) Out Out' up told = tt

-- a report of an outcome, or of a file, is one of an outcome that has it
reports_by : (k : Failing) (Out Out' : ToolStatus → List ℕ → Type 0) (Named Named' : List ℕ → Type 0) (report : Report) (t : FilesTrail)
    → ((s : ToolStatus) (text : List ℕ) → Out s text → Out' s text) → ((name : List ℕ) → Named name → Named' name) → ReportsBy k Out Named report t → ReportsBy k Out' Named' report t
reports_by (At name) Out Out' Named Named' report t up names r = record { named = names name r.named; missed = r.missed; rose = r.rose }
reports_by Nowhere Out Out' Named Named' report t up names r = (up (report_status report) (report_text report) r.0, r.1)

pub reports_up : (Out Out' : ToolStatus → List ℕ → Type 0) (Named Named' : List ℕ → Type 0) (report : Report) (t : FilesTrail) → ((s : ToolStatus) (text : List ℕ) → Out s text → Out' s text)
    → ((name : List ℕ) → Named name → Named' name) → Reports Out Named report t → Reports Out' Named' report t
reports_up Out Out' Named Named' report t up names r = reports_by (failing report) Out Out' Named Named' report t up names r

pub reports_ok : (result : Result Report OutOfMemory) (Out Out' : ToolStatus → List ℕ → Type 0) (Named Named' : List ℕ → Type 0) (t : FilesTrail) → ((s : ToolStatus) (text : List ℕ) → Out s text → Out' s text)
    → ((name : List ℕ) → Named name → Named' name) → IfOk result (λ report. Reports Out Named report t) → IfOk result (λ report. Reports Out' Named' report t)
reports_ok (Ok report) Out Out' Named Named' t up names r = reports_up Out Out' Named Named' report t up names r
reports_ok (Err e) Out Out' Named Named' t up names r = tt

-- behind calls that counted no fault
pub reports_behind : (Out : ToolStatus → List ℕ → Type 0) (Named : List ℕ → Type 0) (report : Report) (before middle now : ℕ) (missed : Option (List ℕ)) → middle ≡ before
    → Reports Out Named report (record { before = middle; now = now; missed = missed }) → Reports Out Named report (record { before = before; now = now; missed = missed })
reports_behind Out Named report before middle now missed same r =
    let P : ℕ → Type 0 = λ n. Reports Out Named report (record { before = n; now = now; missed = missed }) in
    subst P same r

-- a report that is told of contents, where no file failed
pub told_reports : (result : Result Report OutOfMemory) (Out Out' : ToolStatus → List ℕ → Type 0) (Named : List ℕ → Type 0) (t : FilesTrail) → ((s : ToolStatus) (text : List ℕ) → Out s text → Out' s text)
    → t.now ≡ t.before → IfOk result (Tells Out) → IfOk result (λ report. Reports Out' Named report t)
told_reports (Ok report) Out Out' Named t up same tells =
    let P : Failing → Type 0 = λ k. ReportsBy k Out' Named report t in
    let both : ReportsBy Nowhere Out' Named report t = (up (report_status report) (report_text report) tells.0, same) in
    subst P (sym tells.1) both
told_reports (Err e) Out Out' Named t up same tells = tt

-- each report's text is due with its status
due_of : (Out : ToolStatus → List ℕ → Type 0) (Named : List ℕ → Type 0) (report : Report) (t : FilesTrail) → Reports Out Named report t → IsDue Out Named (report_status report) (report_text report) t
due_of Out Named R.Usage t r = outcome r.0 r.1
due_of Out Named (R.NoFile name) t r = unread name r refl refl
due_of Out Named (R.Long name) t r = outcome r.0 r.1
due_of Out Named (R.Plan fault) t r = outcome r.0 r.1
due_of Out Named (R.Image fault) t r = outcome r.0 r.1
due_of Out Named (R.Twins volume) t r = outcome r.0 r.1
due_of Out Named (R.Verdict verdict) t r = outcome r.0 r.1
due_of Out Named (R.Order line) t r = outcome r.0 r.1
due_of Out Named (R.Followed lines followed) t r = outcome r.0 r.1
due_of Out Named (R.Passed lines passed) t r = outcome r.0 r.1
due_of Out Named (R.Hobs fault) t r = outcome r.0 r.1
due_of Out Named (R.Command line) t r = outcome r.0 r.1
due_of Out Named (R.Event line) t r = outcome r.0 r.1
due_of Out Named (R.Text line) t r = outcome r.0 r.1
due_of Out Named (R.Source fault) t r = outcome r.0 r.1
due_of Out Named R.TextLong t r = outcome r.0 r.1
due_of Out Named (R.Malformed at) t r = outcome r.0 r.1
due_of Out Named (R.Bytes fault) t r = outcome r.0 r.1
due_of Out Named (R.Map steps map) t r = outcome r.0 r.1
due_of Out Named (R.Mp file left) t r = outcome r.0 r.1
due_of Out Named (R.Ended end) t r = outcome r.0 r.1
due_of Out Named (R.Answer text) t r = outcome r.0 r.1

text_kind : (report : Report) → kind_of (report_status report) ≡ OfText
text_kind R.Usage = refl
text_kind (R.NoFile name) = refl
text_kind (R.Long name) = refl
text_kind (R.Plan fault) = refl
text_kind (R.Image fault) = refl
text_kind (R.Twins volume) = refl
text_kind (R.Verdict Yes) = refl
text_kind (R.Verdict (No line)) = refl
text_kind (R.Order line) = refl
text_kind (R.Followed lines (F.Ended E.Done)) = refl
text_kind (R.Followed lines (F.Ended E.NoMemory)) = refl
text_kind (R.Followed lines (F.Ended E.NoIpl)) = refl
text_kind (R.Followed lines (F.Ended E.Spent)) = refl
text_kind (R.Followed lines (F.Ended E.Deep)) = refl
text_kind (R.Followed lines F.Stopped) = refl
text_kind (R.Followed lines (F.No line against)) = refl
text_kind (R.Passed lines (Q.Ended E.Done)) = refl
text_kind (R.Passed lines (Q.Ended E.NoMemory)) = refl
text_kind (R.Passed lines (Q.Ended E.NoIpl)) = refl
text_kind (R.Passed lines (Q.Ended E.Spent)) = refl
text_kind (R.Passed lines (Q.Ended E.Deep)) = refl
text_kind (R.Passed lines (Q.No turn)) = refl
text_kind (R.Hobs fault) = refl
text_kind (R.Command line) = refl
text_kind (R.Event line) = refl
text_kind (R.Text line) = refl
text_kind (R.Source fault) = refl
text_kind R.TextLong = refl
text_kind (R.Malformed at) = refl
text_kind (R.Bytes fault) = refl
text_kind (R.Map steps map) = refl
text_kind (R.Mp file left) = refl
text_kind (R.Ended E.Done) = refl
text_kind (R.Ended E.NoMemory) = refl
text_kind (R.Ended E.NoIpl) = refl
text_kind (R.Ended E.Spent) = refl
text_kind (R.Ended E.Deep) = refl
text_kind (R.Answer text) = refl

-- a report that was put
pub put_ends : (put : Result (Unit {0}) SinkFault) (Out : ToolStatus → List ℕ → Type 0) (Named : List ℕ → Type 0) (report : Report) (result : ToolStatus) (t : Trail) → Reports Out Named report t.files
    → result ≡ status_after put (report_status report) → Puts put t.old t.new (report_text report) → SinkFaultsAfter put t.before t.now → Ends Out Named result t
put_ends (Ok u) Out Named report result t r is puts cause =
    let P : Kind → Type 0 = λ k. EndsBy k Out Named (report_status report) t in
    let Q : ToolStatus → Type 0 = λ s. Ends Out Named s t in
    let done : Answered Out Named (report_status report) t = record { text = report_text report; due = due_of Out Named report t.files r; whole = puts; sink = cause } in
    subst Q (sym is) (subst P (sym (text_kind report)) done)
put_ends (Err e) Out Named report result t r is puts cause =
    let Q : ToolStatus → Type 0 = λ s. Ends Out Named s t in
    let failed : SinkFailed Out Named t = record { status = report_status report; text = report_text report; due = due_of Out Named report t.files r; part = puts; sink = cause.1 } in
    subst Q (sym is) failed
