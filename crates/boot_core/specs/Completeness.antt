-- Completeness: a boot of a plan and images without a fault has the status of its run, with the whole text, unless the files or the sink fail or memory is wanting.
-- Own.
use Rattle.std.specs.Prelude.{◌≡◌, ◌⊎◌, ℕ, List, Option}
use Rattle.std.specs.Io.KnownBytes.{Appends}
use Rattle.boot_io.specs.Faults.{Rose}
use Rattle.boot_plan.specs.declared.plan.Plan.{Plan}
use Rattle.mod_catalog.specs.{declared.catalogue.Catalog.Catalog, Catalogue.IsCatalogue}
use Rattle.boot_core.specs.{Job.IsJob, declared.command_line.Command.TheVariants.Boot, declared.status.Status.Status}
use Rattle.boot_core.specs.{declared.status.Status.TheVariants.Memory, Causes.AreTold, CommandLine.AskFor}
use Rattle.boot_core.specs.Outcome.{BootOutcome, Trail}

-- the words ask for the boot of this plan, whose images have this catalogue
pub record AskForBootOf (told : List ℕ → Option (List ℕ)) (words : List (List ℕ)) (plan : Plan) (images : List (List ℕ)) (catalog : Catalog) : Type 0 where
  pub name : List ℕ
  pub asked : AskFor words Boot name
  pub job : IsJob told name (record { plan = plan; images = images })
  pub sound : IsCatalogue plan images catalog

-- no read and no write failed
pub record IsUnfailing (t : Trail) : Type 0 where
  pub files : Rose t.files_before t.files_now → ⊥
  pub sink : Rose t.sink_before t.sink_now → ⊥

-- the status is that of the run, and its whole text was put
pub record HasRun (plan : Plan) (images : List (List ℕ)) (catalog : Catalog) (status : Status) (t : Trail) : Type 0 where
  pub text : List ℕ
  pub ran : BootOutcome plan catalog images status text
  pub whole : Appends t.old t.new text

abbrev pub IsComplete : (List ℕ → Option (List ℕ)) → List (List ℕ) → Status → Trail → Type 0
IsComplete told words status t =
    (plan : Plan) (images : List (List ℕ)) (catalog : Catalog) → AreTold told words → AskForBootOf told words plan images catalog → IsUnfailing t
    → (status ≡ Memory) ⊎ HasRun plan images catalog status t
