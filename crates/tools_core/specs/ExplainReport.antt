-- The report for a plan and the images of its volumes if the boot is explained: the refusal of the images' first fault, or the lines of the catalogue and of
-- the run. Own.
use Rattle.std.specs.Prelude.{◌≡◌, ℕ, List, ◌++◌}
use Rattle.boot_plan.specs.declared.plan.Plan.{Plan}
use Rattle.mod_catalog.specs.{declared.catalogue.Catalog.Catalog, declared.image_fault.ImageFault.ImageFault, Catalogue.IsCatalogue}
use Rattle.mod_catalog.specs.ImageFault.{IsImageFault}
use Rattle.boot_model.specs.PlanBoard.{board_of}
use Rattle.explain_text.specs.{declared.reasons.Explained.Explained, Lines.IsCatalogText, Text.explained_text}
use Rattle.boot_reasons.specs.Explained.{IsExplained}
use Rattle.tools_core.specs.declared.status.ToolStatus.{ToolStatus}
use Rattle.tools_core.specs.declared.status.ToolStatus.TheVariants.{Done, ImageRefused}
use Rattle.tools_core.specs.Refusals.{image_line}

-- the lines of a catalogue, and of a run of its boot that is explained so
pub record IsExplanation (Run : Explained → Type 0) (images : List (List ℕ)) (catalog : Catalog) (out : List ℕ) : Type 0 where
  pub front : List ℕ
  pub catalogue : IsCatalogText catalog.volumes images catalog.modules front
  pub explained : Explained
  pub run : Run explained
  pub is : out ≡ front ++ explained_text catalog.modules explained

-- the boot itself, explained
abbrev pub RunsItself : Plan → List (List ℕ) → Catalog → Explained → Type 0
RunsItself plan images catalog e = IsExplained (board_of plan catalog images) catalog plan.fuel e

-- what a plan and its images lead to
pub data ExplainReport (plan : Plan) (images : List (List ℕ)) (status : ToolStatus) (out : List ℕ) : Type 0 where
  faulty_image : (fault : ImageFault) → IsImageFault plan images fault → status ≡ ImageRefused → out ≡ image_line fault → ExplainReport plan images status out
  explained_so : (catalog : Catalog) → IsCatalogue plan images catalog → IsExplanation (RunsItself plan images catalog) images catalog out → status ≡ Done → ExplainReport plan images status out
