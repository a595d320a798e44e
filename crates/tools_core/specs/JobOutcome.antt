-- What the text of a plan leads to, by the files of its volumes, which are read after its examination. Own.
use Rattle.std.specs.Prelude.{◌≡◌, ℕ, List, Option}
use Rattle.boot_plan.specs.{declared.plan.Plan.Plan, declared.fault.PlanFault.PlanFault}
use Rattle.boot_model.specs.declared.line.Line.{Line}
use Rattle.boot_model.specs.declared.line.Line.TheVariants as L
use Rattle.boot_core.specs.{declared.plan_files.job.Job.Job, Job.IsJobOf, Job.IsTextRefusal}
use Rattle.tools_core.specs.declared.status.ToolStatus.{ToolStatus}
use Rattle.tools_core.specs.declared.status.ToolStatus.TheVariants.{TooLong, PlanRefused}
use Rattle.tools_core.specs.Refusals.{long_line, plan_line}

-- the line of the reading's refusal with its status
pub data JobReport (line : Line) (status : ToolStatus) (out : List ℕ) : Type 0 where
  job_long : (name : List ℕ) → line ≡ L.RefusedLong name → status ≡ TooLong → out ≡ long_line name → JobReport line status out
  job_plan : (fault : PlanFault) → line ≡ L.RefusedPlan fault.line fault.cause → status ≡ PlanRefused → out ≡ plan_line fault → JobReport line status out

-- that refusal, or what the plan and the images of its volumes lead to
pub data JobOutcome (Of : Plan → List (List ℕ) → ToolStatus → List ℕ → Type 0) (told : List ℕ → Option (List ℕ)) (content : List ℕ) (status : ToolStatus) (out : List ℕ) : Type 0 where
  no_job : (line : Line) → IsTextRefusal told content line → JobReport line status out → JobOutcome Of told content status out
  job_read : (job : Job) → IsJobOf told content job → Of job.plan job.images status out → JobOutcome Of told content status out
