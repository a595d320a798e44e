-- How a whole boot is followed along a text.
-- Own.
use Rattle.std.specs.Prelude.{◌≡◌, ℕ, ◌<◌, ◌^◌, ◌-◌, List, ◌++◌, length, Result, Ok, Err, ⊤}
use Rattle.mod_catalog.specs.declared.catalogue.Catalog.{Catalog}
use Rattle.store_model.specs.StoreState.{Board, StoreState, empty_store}
use Rattle.boot_model.specs.{FreeRun.AreFreeLines, declared.line.Line.Line, Text.text_of}
use Rattle.boot_io.specs.{Faults.IsPrefix, declared.halt.Halt.Halt}
use Rattle.recorded_boot.specs.{Parted.parted_by, declared.trace.parted.Parted.Parted}
use Rattle.recorded_boot.specs.declared.trace.parted.Parted.TheVariants.{Off, Memory}
use Rattle.recorded_boot.specs.{declared.trace.spelled.Spelled.Spelled, Putting.IsOffHere}
use Rattle.recorded_boot.specs.Spelled.{IsHeld, met, whole}

-- what was met is the whole text of a boot, and the boots whose text begins with it are of that text
pub record IsWhole (Lines : List Line → Type 0) (text printed : List ℕ) (s : Spelled) : Type 0 where
  pub held : IsHeld s text printed
  pub lines : List Line
  pub boots : Lines lines
  pub is : printed ≡ text_of lines
  pub only : (others : List Line) → Lines others → IsPrefix printed (text_of others) → text_of others ≡ printed

-- a boot along a text, by the answer: to its end, or up to the point at which the text differs
abbrev pub Follows : (List Line → Type 0) → List ℕ → Spelled → Result (Unit {0}) Parted → Type 0
Follows Lines text s (Ok _) = IsWhole Lines text (met s) s
Follows Lines text s (Err Off) = IsOffHere Lines text s
Follows Lines text s (Err Memory) = ⊤

-- by how the boot ended that was followed, or why it was given up
abbrev pub IsFollowed : {A : Type 0} → Result A Halt → Result (Unit {0}) Parted → Type 0
IsFollowed (Ok _) followed = followed ≡ Ok tt
IsFollowed (Err halt) followed = followed ≡ Err (parted_by halt)

-- the lines of the text can be counted, unless memory ran out
abbrev pub IsShort : Spelled → Result (Unit {0}) Parted → Type 0
IsShort s (Ok _) = length (whole s) < 2 ^ 32 - 1
IsShort s (Err Off) = length (whole s) < 2 ^ 32 - 1
IsShort s (Err Memory) = ⊤

-- the whole of a boot: after what was printed it prints its last lines, and so does each boot whose text begins so
pub record IsLast (Lines : List Line → Type 0) (printed last : List ℕ) : Type 0 where
  pub all : List Line
  pub boots : Lines all
  pub text_is : text_of all ≡ printed ++ last
  pub only : (others : List Line) → Lines others → IsPrefix printed (text_of others) → text_of others ≡ text_of all

-- a whole boot over a store that is as it was made
abbrev pub FollowsBoot : {M : Type 0} → (M → StoreState → Type 0) → M → Catalog → ℕ → Spelled → Spelled → Result (Unit {0}) Parted → Type 0
FollowsBoot stands store catalog fuel old new result =
    (board : Board) → stands store (empty_store board) → Follows (AreFreeLines board catalog fuel) (whole old) new result
