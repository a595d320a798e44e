-- What the boot of a generated volume comes to before its summary is put.
-- Own.
use Rattle.std.specs.Prelude.{◌≡◌, ℕ, Some, Result, Ok, Err, ⊤}
use Rattle.pi_base.specs.Field.{AreBytes}
use Rattle.fv_volume.specs.Generated.{generated}
use Rattle.mod_catalog.specs.{declared.catalogue.Catalog.Catalog, Catalogue.IsCatalogue}
use Rattle.boot_model.specs.{declared.line.Line.Line, PeiRun.pei_end}
use Rattle.store_model.specs.StoreState.{Board}
use Rattle.boot_core.specs.declared.plan_files.reading.NoJob.{NoJob}
use Rattle.boot_core.specs.declared.plan_files.reading.NoJob.TheVariants.{Refused, Memory}
use Rattle.boot_core.specs.{declared.generated.Summary.Summary, declared.generated.TheConstants.FUEL, WholeEnd.end_of}
use Rattle.boot_core.specs.Examining.{IsImageRefusal}
use Rattle.boot_core.specs.GeneratedOutcome.{generated_board, generated_images, generated_plan, summary_lines}

-- the summary of a boot of n modules over a board
pub record IsSummaryBy (n : ℕ) (board : Board) (catalog : Catalog) (fuel : ℕ) (summary : Summary) : Type 0 where
  pub ended : end_of board catalog fuel ≡ Some summary.«end»
  pub lines_are : summary.lines ≡ summary_lines n catalog (pei_end board catalog fuel) summary.«end»

-- the summary of the boot of n modules that have this catalogue
abbrev pub IsSummary : ℕ → Catalog → Summary → Type 0
IsSummary n catalog summary = IsSummaryBy n (generated_board n catalog) catalog FUEL summary

-- the summary of the boot of n modules
pub record IsSummaryOf (n : ℕ) (summary : Summary) : Type 0 where
  pub of_bytes : AreBytes (generated n)
  pub catalog : Catalog
  pub sound : IsCatalogue generated_plan (generated_images n) catalog
  pub summed : IsSummary n catalog summary

-- the line refuses the generated volume
pub record IsGeneratedRefusal (n : ℕ) (line : Line) : Type 0 where
  pub of_bytes : AreBytes (generated n)
  pub refused : IsImageRefusal generated_plan (generated_images n) line

-- a boot of n modules is summed up, or why not
abbrev pub SumsUp : ℕ → Result Summary NoJob → Type 0
SumsUp n (Ok summary) = IsSummaryOf n summary
SumsUp n (Err (Refused line)) = IsGeneratedRefusal n line
SumsUp n (Err Memory) = ⊤
