-- What the examination of a plan's images comes to: their catalogue, or the refusal of their first fault.
-- Own.
use Rattle.std.specs.Prelude.{◌≡◌, ◌≢◌, ◌≤◌, ℕ, List, length, ⊤}
use Rattle.boot_plan.specs.declared.plan.Plan.{Plan}
use Rattle.mod_catalog.specs.{declared.catalogue.Catalog.Catalog, declared.image_fault.ImageFault.ImageFault, Catalogue.IsCatalogue}
use Rattle.mod_catalog.specs.declared.image_fault.ImageCause.TheVariants as I
use Rattle.mod_catalog.specs.{ImageFault.IsImageFault, WellFormed.IsWellFormed}
use Rattle.boot_model.specs.{declared.line.Line.Line, PlanBoard.board_of}
use Rattle.boot_core.specs.declared.plan_files.reading.NoJob.{NoJob}
use Rattle.boot_core.specs.declared.plan_files.reading.NoJob.TheVariants.{Refused, Memory}
use Rattle.store_model.specs.StateFacts.{IsBoard}
use Rattle.fv_volume.specs.Generated.{generated}
use Rattle.pi_base.specs.Field.{AreBytes}
use Rattle.boot_core.specs.{GeneratedOutcome.generated_images, GeneratedOutcome.generated_plan, Refusing.image_line}

-- the catalogue of the images, which can be booted
pub record IsExamined (plan : Plan) (images : List (List ℕ)) (catalog : Catalog) : Type 0 where
  pub sound : IsCatalogue plan images catalog
  pub well_formed : IsWellFormed catalog
  pub some_volume : 1 ≤ length catalog.volumes
  pub board : IsBoard (board_of plan catalog images)

-- the line of the first fault
pub record IsImageRefusal (plan : Plan) (images : List (List ℕ)) (line : Line) : Type 0 where
  pub fault : ImageFault
  pub is : IsImageFault plan images fault
  pub line_is : line ≡ image_line fault

-- why images have no catalogue: that line, or want of memory
abbrev pub AreRefused : Plan → List (List ℕ) → NoJob → Type 0
AreRefused plan images (Refused line) = IsImageRefusal plan images line
AreRefused plan images Memory = ⊤

-- a fault is told by its line; want of memory is none
abbrev pub IsFaultTold : ImageFault → NoJob → Type 0
IsFaultTold fault (Refused line) = (fault.cause ≢ I.Memory) × (line ≡ image_line fault)
IsFaultTold fault Memory = fault.cause ≡ I.Memory

-- the plan and the images of the generated volume of n modules
pub record IsJob (n : ℕ) (plan : Plan) (images : List (List ℕ)) : Type 0 where
  pub plan_is : plan ≡ generated_plan
  pub images_are : images ≡ generated_images n
  pub of_bytes : AreBytes (generated n)
