-- The reports of the lines with which the reading of files is refused.
use Rattle.std.proofs.Common.{◌≡◌, ℕ, List, Option, inl, inr, refl, sym, subst}
use Rattle.boot_model.specs.declared.line.Line.{Line}
use Rattle.boot_model.specs.declared.line.Line.TheVariants as L
use Rattle.boot_core.specs.Job.{IsNamedIn, IsTextRefusal, text_long, text_refused}
use Rattle.boot_core.specs.Reading.{FilesTrail, IsLongFile, Lacks}
use Rattle.boot_core.specs.declared.plan_files.reading.NoJob.TheVariants.{Refused}
use Rattle.tools_core.specs.{declared.report.Report.Report, declared.status.ToolStatus.ToolStatus, FileReading.LongOutcome}
use Rattle.tools_core.specs.declared.report.Report.TheVariants as R
use Rattle.boot_plan.specs.declared.plan.Plan.{Plan}
use Rattle.tools_core.specs.JobOutcome.{JobOutcome, JobReport, job_long, job_plan, no_job}
use Rattle.tools_core.specs.Ends.{Failing, Reports, ReportsBy, Tells}
use Rattle.tools_core.specs.FileRefusal.{IsFileRefusal, IsReportOf, of_file, of_long, of_plan, reports_file, reports_long, reports_plan}

-- why there is nothing is told by a line that has a report
pub lacks_refusal : (Refuses : Line → Type 0) (Named : List ℕ → Type 0) (t : FilesTrail) (line : Line) → (Refuses line → IsFileRefusal line) → Lacks Refuses Named t (Refused line) → IsFileRefusal line
lacks_refusal Refuses Named t line up (inl h) = up h.0
lacks_refusal Refuses Named t line up (inr h) = of_file h.name h.line_is

file_report : (line : Line) (report : Report) (name : List ℕ) → line ≡ L.RefusedFile name → IsReportOf line report → report ≡ R.NoFile name
file_report line report name is (reports_file other e r) = cc
file_report line report name is (reports_long other e r) = cc
file_report line report name is (reports_plan at cause e r) = cc

long_report : (line : Line) (report : Report) (name : List ℕ) → line ≡ L.RefusedLong name → IsReportOf line report → report ≡ R.Long name
long_report line report name is (reports_file other e r) = cc
long_report line report name is (reports_long other e r) = cc
long_report line report name is (reports_plan at cause e r) = cc

-- the report of why there is nothing
lacks_reports : (Refuses : Line → Type 0) (Named : List ℕ → Type 0) (Out : ToolStatus → List ℕ → Type 0) (t : FilesTrail) (line : Line) (report : Report)
    → (Refuses line → Tells Out report) → Lacks Refuses Named t (Refused line) → IsReportOf line report → Reports Out Named report t
lacks_reports Refuses Named Out t line report up (inl h) is =
    let tells = up h.0 in
    let P : Failing → Type 0 = λ k. ReportsBy k Out Named report t in
    subst P (sym tells.1) (tells.0, h.1)
lacks_reports Refuses Named Out t line report up (inr h) is =
    let P : Report → Type 0 = λ r. Reports Out Named r t in
    subst P (sym (file_report line report h.name h.line_is is)) (record { named = h.named; missed = h.missed; rose = h.rose })

-- the report of a file that is too long
long_tells : (told : Option (List ℕ)) (limit : ℕ) (name : List ℕ) (line : Line) (report : Report) → IsReportOf line report → IsLongFile told limit name line → Tells (LongOutcome told limit name) report
long_tells told limit name line report is long =
    subst (Tells (LongOutcome told limit name)) (sym (long_report line report name long.line_is is)) (record { content = long.content; long = long.long; status_is = refl; text_is = refl }, refl)

-- the line of a file that can't be had, and its report
pub file_refusal : (told : Option (List ℕ)) (limit : ℕ) (name : List ℕ) (t : FilesTrail) (line : Line) → Lacks (IsLongFile told limit name) (λ n. n ≡ name) t (Refused line) → IsFileRefusal line
file_refusal told limit name t line lacks = lacks_refusal (IsLongFile told limit name) (λ n. n ≡ name) t line (λ long. of_long name long.line_is) lacks

pub file_reports : (told : Option (List ℕ)) (limit : ℕ) (name : List ℕ) (t : FilesTrail) (line : Line) (report : Report) → Lacks (IsLongFile told limit name) (λ n. n ≡ name) t (Refused line)
    → IsReportOf line report → Reports (LongOutcome told limit name) (λ n. n ≡ name) report t
file_reports told limit name t line report lacks is =
    lacks_reports (IsLongFile told limit name) (λ n. n ≡ name) (LongOutcome told limit name) t line report (long_tells told limit name line report is) lacks is

-- the line of the first refusal of a plan's text
refusal_line : (told : List ℕ → Option (List ℕ)) (text : List ℕ) (line : Line) → IsTextRefusal told text line → IsFileRefusal line
refusal_line told text line (text_refused fault f e) = of_plan fault.line fault.cause e
refusal_line told text line (text_long plan is long) = of_long long.volume.name long.long.line_is

-- it is none of a file that could not be read
not_file : (told : List ℕ → Option (List ℕ)) (text : List ℕ) (line : Line) (file : List ℕ) → IsTextRefusal told text line → line ≡ L.RefusedFile file → ⊥
not_file told text line file (text_refused fault f is) e = cc
not_file told text line file (text_long plan p long) e = let is = long.long.line_is in cc

job_tells : (told : List ℕ → Option (List ℕ)) (text : List ℕ) (line : Line) (report : Report) → IsReportOf line report → IsTextRefusal told text line → Tells (JobReport line) report
job_tells told text line report (reports_file file e r) refusal = absurd (not_file told text line file refusal e)
job_tells told text line report (reports_long file e r) refusal = subst (Tells (JobReport line)) (sym r) (job_long file e refl refl, refl)
job_tells told text line report (reports_plan at cause e r) refusal = subst (Tells (JobReport line)) (sym r) (job_plan (record { line = at; cause = cause }) e refl refl, refl)

pub job_refusal : (told : List ℕ → Option (List ℕ)) (text : List ℕ) (t : FilesTrail) (line : Line) → Lacks (IsTextRefusal told text) (IsNamedIn told text) t (Refused line) → IsFileRefusal line
job_refusal told text t line lacks = lacks_refusal (IsTextRefusal told text) (IsNamedIn told text) t line (refusal_line told text line) lacks

pub job_reports : (Of : Plan → List (List ℕ) → ToolStatus → List ℕ → Type 0) (told : List ℕ → Option (List ℕ)) (content : List ℕ) (t : FilesTrail) (line : Line) (report : Report) → Lacks (IsTextRefusal told content) (IsNamedIn told content) t (Refused line)
    → IsReportOf line report → Reports (JobOutcome Of told content) (IsNamedIn told content) report t
job_reports Of told content t line report lacks is =
    let up : IsTextRefusal told content line → Tells (JobOutcome Of told content) report = λ refusal. let tells = job_tells told content line report is refusal in (no_job line refusal tells.0, tells.1) in
    lacks_reports (IsTextRefusal told content) (IsNamedIn told content) (JobOutcome Of told content) t line report up lacks is
