-- What a plan, its images and a text lead to: the images' first fault, the first volume with two modules of one name, or the verdict on the text.
-- Own.
use Rattle.std.specs.Prelude.{◌≡◌, ◌≢◌, ℕ, List, Result, Ok, Err, ⊤}
use Rattle.boot_plan.specs.declared.plan.Plan.{Plan}
use Rattle.mod_catalog.specs.{declared.catalogue.Catalog.Catalog, declared.image_fault.ImageFault.ImageFault, Catalogue.IsCatalogue}
use Rattle.mod_catalog.specs.declared.image_fault.ImageCause.TheVariants as I
use Rattle.mod_catalog.specs.ImageFault.{IsImageFault}
use Rattle.boot_model.specs.{FreeRun.AreFreeLines, PlanBoard.board_of}
use Rattle.recorded_boot.specs.{Named.HasNoTwins, Named.IsFirstWithTwins, declared.trace.checking.CheckFault.CheckFault}
use Rattle.recorded_boot.specs.declared.trace.checking.CheckFault.TheVariants.{Image, Twins, Memory}
use Rattle.recorded_boot.specs.{declared.trace.verdict.Verdict.Verdict, Verdict.IsVerdict}

-- a fault of images is returned as it is; running out of memory is not one
abbrev pub IsFaultTold : ImageFault → CheckFault → Type 0
IsFaultTold fault (Image told) = (fault.cause ≢ I.Memory) × (told ≡ fault)
IsFaultTold fault (Twins volume) = ⊥
IsFaultTold fault Memory = fault.cause ≡ I.Memory

-- over a catalogue: the verdict, or its first volume with two modules of one name
abbrev pub ChecksCatalog : Plan → Catalog → List (List ℕ) → List ℕ → Result Verdict CheckFault → Type 0
ChecksCatalog plan catalog images text (Ok verdict) = HasNoTwins catalog × IsVerdict (AreFreeLines (board_of plan catalog images) catalog plan.fuel) text verdict
ChecksCatalog plan catalog images text (Err (Image fault)) = ⊥
ChecksCatalog plan catalog images text (Err (Twins volume)) = IsFirstWithTwins catalog volume
ChecksCatalog plan catalog images text (Err Memory) = ⊤

-- the images have a catalogue in which a start line names one module, and the verdict is that on the text by the free boots of the catalogue
pub record IsChecked (plan : Plan) (images : List (List ℕ)) (text : List ℕ) (verdict : Verdict) : Type 0 where
  pub catalog : Catalog
  pub sound : IsCatalogue plan images catalog
  pub apart : HasNoTwins catalog
  pub is : IsVerdict (AreFreeLines (board_of plan catalog images) catalog plan.fuel) text verdict

-- a volume of the images' catalogue is the first that has two modules of one name
pub record HasTwins (plan : Plan) (images : List (List ℕ)) (volume : ℕ) : Type 0 where
  pub catalog : Catalog
  pub sound : IsCatalogue plan images catalog
  pub is : IsFirstWithTwins catalog volume

abbrev pub Checks : Plan → List (List ℕ) → List ℕ → Result Verdict CheckFault → Type 0
Checks plan images text (Ok verdict) = IsChecked plan images text verdict
Checks plan images text (Err (Image fault)) = IsImageFault plan images fault
Checks plan images text (Err (Twins volume)) = HasTwins plan images volume
Checks plan images text (Err Memory) = ⊤
