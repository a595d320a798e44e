-- The files of a tool as they are read: in the order of the words, all before any is examined. One that is longer than its limit ends the reading.
-- Own.
use Rattle.std.specs.Prelude.{◌≡◌, ℕ, List, Option}
use Rattle.boot_io.specs.Faults.{Rose}
use Rattle.tools_core.specs.{declared.status.ToolStatus.ToolStatus, declared.status.ToolStatus.TheVariants.TooLong, Refusals.long_line}
pub use Rattle.boot_core.specs.Reading.{IsRead, IsLong, IsMissed, FilesTrail}

-- a file that is longer than its limit is refused by its name
pub record LongOutcome (told : Option (List ℕ)) (limit : ℕ) (name : List ℕ) (status : ToolStatus) (text : List ℕ) : Type 0 where
  pub content : List ℕ
  pub long : IsLong told limit content
  pub status_is : status ≡ TooLong
  pub text_is : text ≡ long_line name

-- the files failed at one of these names
pub record FilesFailed (Named : List ℕ → Type 0) (name : List ℕ) (t : FilesTrail) : Type 0 where
  pub named : Named name
  pub missed : IsMissed t.missed name
  pub rose : Rose t.before t.now
