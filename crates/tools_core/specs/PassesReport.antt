-- The boot of a plan in the order of EDK2's dispatchers: its lines, and behind them whose turn it is where it goes no further.
-- Own; PI 1.8, volumes 1 and 2, leave the order of the modules that may start to the dispatchers.
use Rattle.std.specs.Prelude.{◌≡◌, ℕ, List, [], ◌++◌, Some}
use Rattle.boot_plan.specs.declared.plan.Plan.{Plan}
use Rattle.mod_catalog.specs.{declared.catalogue.Catalog.Catalog, declared.image_fault.ImageFault.ImageFault, Catalogue.IsCatalogue}
use Rattle.mod_catalog.specs.ImageFault.{IsImageFault}
use Rattle.boot_model.specs.PlanBoard.{board_of}
use Rattle.recorded_boot.specs.{declared.passes.Passed.Passed, Passes.PassesTo}
use Rattle.tools_core.specs.{declared.status.ToolStatus.ToolStatus, declared.status.ToolStatus.TheVariants.ImageRefused}
use Rattle.tools_core.specs.{FollowText.passed_text, Refusals.image_line, ReportText.passed_status}

-- a boot over the catalogue of the images ends this way in that order, with these lines
abbrev pub PassesSo : Plan → List (List ℕ) → Catalog → Passed → List ℕ → Type 0
PassesSo plan images catalog passed lines = PassesTo (board_of plan catalog images) catalog plan.fuel (record { old = Some []; new = Some lines }) passed

-- what a plan and its images lead to
pub data PassesReport (plan : Plan) (images : List (List ℕ)) (status : ToolStatus) (out : List ℕ) : Type 0 where
  wrong_image : (fault : ImageFault) → IsImageFault plan images fault → status ≡ ImageRefused → out ≡ image_line fault → PassesReport plan images status out
  boots_so : (catalog : Catalog) → IsCatalogue plan images catalog → (passed : Passed) (lines : List ℕ) → PassesSo plan images catalog passed lines
      → status ≡ passed_status passed → out ≡ lines ++ passed_text passed → PassesReport plan images status out
