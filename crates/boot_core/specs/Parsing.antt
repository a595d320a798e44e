-- The text of a plan, by what it leads to. Own.
use Rattle.std.specs.Prelude.{◌≡◌, ℕ, List, Result, Ok, Err, ⊤}
use Rattle.boot_plan.specs.{declared.plan.Plan.Plan, declared.fault.PlanFault.PlanFault, PlanText.IsPlan, PlanText.IsPlanFault}
use Rattle.boot_model.specs.declared.line.Line.{Line}
use Rattle.boot_model.specs.declared.line.Line.TheVariants as L
use Rattle.boot_core.specs.declared.plan_files.reading.NoJob.{NoJob}
use Rattle.boot_core.specs.declared.plan_files.reading.NoJob.TheVariants.{Refused, Memory}

-- the line of a text's first fault
pub record IsFaultLine (text : List ℕ) (line : Line) : Type 0 where
  pub fault : PlanFault
  pub is : IsPlanFault text fault
  pub line_is : line ≡ L.RefusedPlan fault.line fault.cause

abbrev pub Parses : List ℕ → Result Plan NoJob → Type 0
Parses text (Ok plan) = IsPlan text plan
Parses text (Err (Refused line)) = IsFaultLine text line
Parses text (Err Memory) = ⊤
