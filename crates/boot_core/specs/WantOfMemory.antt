-- Where memory may be wanting with the words of a command line: before anything is put, or behind all lines of PEI of the boot that they ask for.
-- Own.
use Rattle.std.specs.Prelude.{◌⊎◌, ℕ, List, [], ◌++◌, Option}
use Rattle.std.specs.Io.KnownBytes.{Appends}
use Rattle.boot_plan.specs.declared.plan.Plan.{Plan}
use Rattle.mod_catalog.specs.{declared.catalogue.Catalog.Catalog, Catalogue.IsCatalogue}
use Rattle.boot_model.specs.{PeiRun.pei_end, PlanBoard.board_of, Text.text_of}
use Rattle.boot_trace.specs.Printing.{Texts}
use Rattle.boot_core.specs.{declared.plan_files.job.Job.Job, Job.IsJob, declared.command_line.Command.TheVariants.Boot}
use Rattle.boot_core.specs.{declared.deciding.Asked.Asked, CommandLine.AskFor}
use Rattle.boot_core.specs.declared.deciding.Asked.TheVariants as A

-- all lines of PEI of the boot of a plan and its images were put, and then a part of what follows
pub record IsPeiPut (plan : Plan) (images : List (List ℕ)) (t : Texts) : Type 0 where
  pub catalog : Catalog
  pub sound : IsCatalogue plan images catalog
  pub part : List ℕ
  pub put : Appends t.old t.new (text_of (pei_end (board_of plan catalog images) catalog plan.fuel).lines ++ part)

-- where memory is wanting in what is asked for
abbrev pub IsWantedIn : Asked → Texts → Type 0
IsWantedIn (A.Boot job) t = Appends t.old t.new [] ⊎ IsPeiPut job.plan job.images t
IsWantedIn (A.Audit job) t = Appends t.old t.new []
IsWantedIn (A.Generate n) t = Appends t.old t.new []

-- the words ask for the boot of a plan, of whose PEI all lines were put
pub record HasPeiPut (told : List ℕ → Option (List ℕ)) (words : List (List ℕ)) (t : Texts) : Type 0 where
  pub name : List ℕ
  pub asked : AskFor words Boot name
  pub job : Job
  pub is : IsJob told name job
  pub pei : IsPeiPut job.plan job.images t

-- where memory is wanting with these words
abbrev pub IsWantedOutside : (List ℕ → Option (List ℕ)) → List (List ℕ) → Texts → Type 0
IsWantedOutside told words t = Appends t.old t.new [] ⊎ HasPeiPut told words t
