-- The files of a boot as they are read: the plan's, and those of its volumes in their order. A file that is longer than its limit ends the reading, and so does one that cannot be read.
-- Own.
use Rattle.std.specs.Prelude.{◌≡◌, ◌⊎◌, ℕ, ◌<◌, ◌≤◌, List, ◌∷◌, ◌++◌, length, Option, Some, None, Result, Ok, Err, ⊤}
use Rattle.boot_io.specs.{Faults.Rose, Files.IsTold}
use Rattle.boot_plan.specs.declared.plan.PlanVolume.{PlanVolume}
use Rattle.pi_base.specs.Lists.{EachPair}
use Rattle.boot_model.specs.declared.line.Line.{Line}
use Rattle.boot_model.specs.declared.line.Line.TheVariants as L
use Rattle.boot_core.specs.declared.plan_files.reading.NoJob.{NoJob}
use Rattle.boot_core.specs.declared.plan_files.reading.NoJob.TheVariants.{Refused, Memory}

-- how many bytes a plan, and a volume's file, may have
abbrev pub plan_limit : ℕ
plan_limit = 0x10000

abbrev pub volume_limit : ℕ
volume_limit = 0x4000000

-- a content is as it is told, and within a limit
pub record IsRead (told : Option (List ℕ)) (limit : ℕ) (content : List ℕ) : Type 0 where
  pub as_told : IsTold told content
  pub within : length content ≤ limit

-- a content is as it is told, and over the limit
pub record IsLong (told : Option (List ℕ)) (limit : ℕ) (content : List ℕ) : Type 0 where
  pub as_told : IsTold told content
  pub over : limit < length content

-- the line names a file that is too long
pub record IsLongFile (told : Option (List ℕ)) (limit : ℕ) (name : List ℕ) (line : Line) : Type 0 where
  pub content : List ℕ
  pub long : IsLong told limit content
  pub line_is : line ≡ L.RefusedLong name

-- the images of some volumes, each as its file is told
abbrev pub AreImages : (List ℕ → Option (List ℕ)) → List PlanVolume → List (List ℕ) → Type 0
AreImages told volumes images = EachPair (λ volume image. IsRead (told volume.name) volume_limit image) volumes images

-- a volume of some volumes, where each file before it is read within its limit
pub record Reaches (told : List ℕ → Option (List ℕ)) (volumes : List PlanVolume) (volume : PlanVolume) : Type 0 where
  pub before : List PlanVolume
  pub behind : List PlanVolume
  pub images : List (List ℕ)
  pub these : volumes ≡ before ++ volume ∷ behind
  pub read : AreImages told before images

-- the line names the first of some volumes' files that is too long
pub record IsLongVolume (told : List ℕ → Option (List ℕ)) (volumes : List PlanVolume) (line : Line) : Type 0 where
  pub volume : PlanVolume
  pub reached : Reaches told volumes volume
  pub long : IsLongFile (told volume.name) volume_limit volume.name line

-- a name of a volume's file to which the reading comes
pub record IsReached (told : List ℕ → Option (List ℕ)) (volumes : List PlanVolume) (name : List ℕ) : Type 0 where
  pub volume : PlanVolume
  pub reached : Reaches told volumes volume
  pub is : name ≡ volume.name

-- where a missed name is told it is this one
abbrev pub IsMissed : Option (List ℕ) → List ℕ → Type 0
IsMissed None name = ⊤
IsMissed (Some missed) name = missed ≡ name

-- what calls of the files left: the counts of faults before and after, and the missed name
pub record FilesTrail : Type 0 where
  pub before : ℕ
  pub now : ℕ
  pub missed : Option (List ℕ)

-- the files failed at one of these names, and the line tells it
pub record FilesFailed (Named : List ℕ → Type 0) (t : FilesTrail) (line : Line) : Type 0 where
  pub name : List ℕ
  pub named : Named name
  pub missed : IsMissed t.missed name
  pub rose : Rose t.before t.now
  pub line_is : line ≡ L.RefusedFile name

-- why there is nothing: the line of a refusal, or of a file that could not be read, or want of memory; the count of faults rose where the files failed, and nowhere else
abbrev pub Lacks : (Line → Type 0) → (List ℕ → Type 0) → FilesTrail → NoJob → Type 0
Lacks Refuses Named t (Refused line) = (Refuses line × (t.now ≡ t.before)) ⊎ FilesFailed Named t line
Lacks Refuses Named t Memory = t.now ≡ t.before

-- a reading, by its answer
abbrev pub Reads : {A : Type 0} → (A → Type 0) → (Line → Type 0) → (List ℕ → Type 0) → FilesTrail → Result A NoJob → Type 0
Reads Good Refuses Named t (Ok value) = Good value × (t.now ≡ t.before)
Reads Good Refuses Named t (Err none) = Lacks Refuses Named t none
