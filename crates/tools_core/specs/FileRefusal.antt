-- The lines with which the reading of files is refused, and their reports.
-- Own.
use Rattle.std.specs.Prelude.{◌≡◌, ℕ, List}
use Rattle.boot_plan.specs.declared.fault.PlanCause.{PlanCause}
use Rattle.boot_model.specs.declared.line.Line.{Line}
use Rattle.boot_model.specs.declared.line.Line.TheVariants as L
use Rattle.tools_core.specs.declared.report.Report.{Report}
use Rattle.tools_core.specs.declared.report.Report.TheVariants as R

-- the line names a file that could not be read or is too long, or the fault of a plan
pub data IsFileRefusal (line : Line) : Type 0 where
  of_file : (name : List ℕ) → line ≡ L.RefusedFile name → IsFileRefusal line
  of_long : (name : List ℕ) → line ≡ L.RefusedLong name → IsFileRefusal line
  of_plan : (at : ℕ) (cause : PlanCause) → line ≡ L.RefusedPlan at cause → IsFileRefusal line

-- the report with that line
pub data IsReportOf (line : Line) (report : Report) : Type 0 where
  reports_file : (name : List ℕ) → line ≡ L.RefusedFile name → report ≡ R.NoFile name → IsReportOf line report
  reports_long : (name : List ℕ) → line ≡ L.RefusedLong name → report ≡ R.Long name → IsReportOf line report
  reports_plan : (at : ℕ) (cause : PlanCause) → line ≡ L.RefusedPlan at cause → report ≡ R.Plan (record { line = at; cause = cause }) → IsReportOf line report
