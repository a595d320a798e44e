-- The verdict on a trace over the catalogue of a plan's images.
-- Own.
use Rattle.std.specs.Prelude.{◌≡◌, ℕ, List}
use Rattle.boot_plan.specs.declared.plan.Plan.{Plan}
use Rattle.mod_catalog.specs.declared.catalogue.Catalog.{Catalog}
use Rattle.boot_model.specs.{FreeRun.AreFreeLines, PlanBoard.board_of}
use Rattle.recorded_boot.specs.Verdict.{IsBoot, IsFirstOff}
use Rattle.tools_core.specs.declared.status.ToolStatus.{ToolStatus}
use Rattle.tools_core.specs.declared.status.ToolStatus.TheVariants.{Done, No}
use Rattle.tools_core.specs.Refusals.{no_line, yes_line}

-- the text is that of a free boot of the images' catalogue, or goes wrong with a line
pub data VerdictReport (plan : Plan) (images : List (List ℕ)) (catalog : Catalog) (text : List ℕ) (status : ToolStatus) (out : List ℕ) : Type 0 where
  yes : IsBoot (AreFreeLines (board_of plan catalog images) catalog plan.fuel) text → status ≡ Done → out ≡ yes_line → VerdictReport plan images catalog text status out
  no : (line : ℕ) → IsFirstOff (AreFreeLines (board_of plan catalog images) catalog plan.fuel) text line → status ≡ No → out ≡ no_line line
      → VerdictReport plan images catalog text status out
