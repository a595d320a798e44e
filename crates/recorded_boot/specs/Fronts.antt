-- What is known of a text that is held against a free boot, a piece at a time. `Lines` says of lines whether some free boot prints them, all of them.
-- Own.
use Rattle.std.specs.Prelude.{◌≡◌, ◌≢◌, ◌<◌, ℕ, List, [], ◌∷◌, ◌++◌, length}
use Rattle.boot_io.specs.Faults.{IsPrefix}
use Rattle.boot_model.specs.{declared.line.Line.Line, Text.text_of}

-- the bytes end with a line feed
abbrev pub EndsLine : List ℕ → Type 0
EndsLine bytes = (before : List ℕ) × (bytes ≡ before ++ 10 ∷ [])

-- Some free boot prints the matched beginning of a text, but none prints one more line of it, or the whole text.
pub record IsOff (Lines : List Line → Type 0) (text met : List ℕ) : Type 0 where
  pub begins : (lines : List Line) × Lines lines × IsPrefix met (text_of lines)
  pub parted : (lines : List Line) (front : List ℕ) → Lines lines → IsPrefix front text → EndsLine front → length met < length front → IsPrefix front (text_of lines) → ⊥
  pub other : (lines : List Line) → Lines lines → text_of lines ≢ text

-- Of the boots from a start, those from here on are the ones whose text begins with what was printed so far.
pub record Tracks (Start Here : List Line → Type 0) (printed : List ℕ) : Type 0 where
  pub back : (lines : List Line) → Here lines → Start lines
  pub on : (lines : List Line) → Start lines → IsPrefix printed (text_of lines) → Here lines
