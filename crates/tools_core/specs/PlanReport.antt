-- The report for a plan alone: the HOB list that its PEI hands on, its boot, explained, each in the machine's order or in that of EDK2's dispatchers, or its boot in that order. Own.
use Rattle.std.specs.Prelude.{◌≡◌, ℕ, List, Option}
use Rattle.boot_plan.specs.declared.plan.Plan.{Plan}
use Rattle.boot_core.specs.{HandOff.IsHandOff, Job.IsNamedIn, Reading.plan_limit}
use Rattle.recorded_boot.specs.HandOff.{IsHandOffInTurns}
use Rattle.tools_core.specs.{declared.command_line.PlanTool.PlanTool, declared.status.ToolStatus.ToolStatus, ExplainReport.ExplainReport}
use Rattle.tools_core.specs.declared.command_line.PlanTool.TheVariants.{Hobs, HobsInTurns, Reasons, ReasonsInTurns, Passes}
use Rattle.tools_core.specs.{FileReading.IsRead, FileReading.LongOutcome, HobsReport.HobsReport, JobOutcome.JobOutcome}
use Rattle.tools_core.specs.{PassesReport.PassesReport, TurnsReport.TurnsReport}

-- what a plan and the images of its volumes lead to
abbrev pub PlanReport : PlanTool → Plan → List (List ℕ) → ToolStatus → List ℕ → Type 0
PlanReport Hobs plan images = HobsReport (IsHandOff plan images) plan images
PlanReport HobsInTurns plan images = HobsReport (IsHandOffInTurns plan images) plan images
PlanReport Reasons plan images = ExplainReport plan images
PlanReport ReasonsInTurns plan images = TurnsReport plan images
PlanReport Passes plan images = PassesReport plan images

-- what the file of a plan leads to
pub data PlanOutcome (tool : PlanTool) (told : List ℕ → Option (List ℕ)) (plan : List ℕ) (status : ToolStatus) (out : List ℕ) : Type 0 where
  over_long : LongOutcome (told plan) plan_limit plan status out → PlanOutcome tool told plan status out
  text_read : (content : List ℕ) → IsRead (told plan) plan_limit content → JobOutcome (PlanReport tool) told content status out → PlanOutcome tool told plan status out

-- a name of a file to which the reading comes: the plan's, and then those of the volumes
pub data PlanNames (told : List ℕ → Option (List ℕ)) (plan name : List ℕ) : Type 0 where
  names_the_plan : name ≡ plan → PlanNames told plan name
  names_a_volume : (content : List ℕ) → IsRead (told plan) plan_limit content → IsNamedIn told content name → PlanNames told plan name
