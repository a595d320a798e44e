-- What a command line comes to, by the files that are read, before anything is put: what is asked for, with all that it takes, or the line of a refusal.
-- Own.
use Rattle.std.specs.Prelude.{◌≡◌, ℕ, ◌≤◌, List, Option, length, ⊤}
use Rattle.fv_volume.specs.declared.build.generated.TheConstants.{MOST_MODULES}
use Rattle.boot_plan.specs.Range.{IsPlanInRange}
use Rattle.boot_model.specs.declared.line.Line.{Line}
use Rattle.boot_model.specs.declared.line.Line.TheVariants as L
use Rattle.boot_core.specs.{declared.plan_files.job.Job.Job, declared.command_line.Command.Command, declared.deciding.Asked.Asked}
use Rattle.boot_core.specs.Job.{IsJob, IsNamed, IsRefusal}
use Rattle.boot_core.specs.declared.command_line.Command.TheVariants as C
use Rattle.boot_core.specs.declared.deciding.Asked.TheVariants as A
use Rattle.boot_core.specs.CommandLine.{AskFor, AskForGenerated, AskForNothing}

-- what a command asks for of a job
abbrev pub asked_of : Command → Job → Asked
asked_of C.Boot job = A.Boot job
asked_of C.Audit job = A.Audit job

-- the words ask for this, by the files as they are told
pub data IsAsked (told : List ℕ → Option (List ℕ)) (words : List (List ℕ)) (asked : Asked) : Type 0 where
  job_asked : (command : Command) (plan : List ℕ) → AskFor words command plan → (job : Job) → IsJob told plan job → asked ≡ asked_of command job → IsAsked told words asked
  number_asked : (n : ℕ) → AskForGenerated words n → asked ≡ A.Generate n → IsAsked told words asked

-- the line refuses the words, or the plan that they name
pub data IsRefused (told : List ℕ → Option (List ℕ)) (words : List (List ℕ)) (line : Line) : Type 0 where
  words_refused : AskForNothing words → line ≡ L.RefusedUsage → IsRefused told words line
  job_refused : (command : Command) (plan : List ℕ) → AskFor words command plan → IsRefusal told plan line → IsRefused told words line

-- a name of a file to which the words lead: the plan's, or one of a volume that the plan names, with all before it read
abbrev pub Names : (List ℕ → Option (List ℕ)) → List (List ℕ) → List ℕ → Type 0
Names told words name = (command : Command) × (plan : List ℕ) × AskFor words command plan × IsNamed told plan name

-- it is a boot
abbrev pub IsBoot : Asked → Type 0
IsBoot (A.Boot job) = ⊤
IsBoot (A.Audit job) = ⊥
IsBoot (A.Generate n) = ⊥

-- a plan in range, with an image for each of its volumes
pub record IsSoundJob (job : Job) : Type 0 where
  pub in_range : IsPlanInRange job.plan
  pub as_many : length job.images ≡ length job.plan.volumes

-- it can be done
abbrev pub CanBeDone : Asked → Type 0
CanBeDone (A.Boot job) = IsSoundJob job
CanBeDone (A.Audit job) = IsSoundJob job
CanBeDone (A.Generate n) = (1 ≤ n) × (n ≤ MOST_MODULES)
