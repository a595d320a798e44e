-- What is known of a text after a piece that was written.
-- Own.
use Rattle.std.specs.Prelude.{◌≡◌, ◌≤◌, ◌⊎◌, ℕ, ◌+◌, List, [], ◌∷◌, ◌++◌, length, Some}
use Rattle.std.specs.Io.KnownBytes.{Appends}
use Rattle.boot_io.specs.{Faults.IsPrefix, Sink.AppendsPart}
use Rattle.boot_model.specs.{declared.line.Line.Line, Text.text_of}
use Rattle.recorded_boot.specs.{declared.trace.spelled.Spelled.Spelled, Fronts.IsOff, Lines.Lacks}
use Rattle.recorded_boot.specs.Spelled.{GoesOn, IsHeld, IsRight, met, spoken, told, whole}

-- after what was printed these lines continue by a line that is not the text's
pub record PartsByLine (text printed : List ℕ) (lines : List Line) : Type 0 where
  pub line : List ℕ
  pub lacks : Lacks line
  pub prints : IsPrefix (printed ++ (line ++ 10 ∷ [])) (text_of lines)
  pub other : IsPrefix (printed ++ (line ++ 10 ∷ [])) text → ⊥

-- some boot continues from here, and each that does prints these bytes next, or a line that is not the text's
pub record AllPrint (Here : List Line → Type 0) (text printed bytes : List ℕ) : Type 0 where
  pub some : (lines : List Line) × Here lines × IsPrefix (printed ++ bytes) (text_of lines)
  pub each : (lines : List Line) → Here lines → IsPrefix (printed ++ bytes) (text_of lines) ⊎ PartsByLine text printed lines

-- what was written without a failure is in the text after what was matched
abbrev pub PutsGoOn : Type 0
PutsGoOn = (old new : Spelled) (bytes : List ℕ) → Appends (Some (spoken old)) (Some (spoken new)) bytes → IsRight old → IsRight new → GoesOn old new bytes

-- What is known if one of these bytes differs from the text after what was printed: the bytes that the sink knows are one more than what was matched, begin
-- what was to be written, and no longer begin the text.
pub record HasParted (s : Spelled) (text printed bytes : List ℕ) : Type 0 where
  pub whole_is : whole s ≡ text
  pub begins : IsPrefix (met s) (told s)
  pub told_long : length (told s) ≡ length (met s) + 1
  pub told_begins : IsPrefix (told s) (printed ++ bytes)
  pub apart : IsPrefix (told s) text → ⊥
  pub printed_there : IsPrefix printed text
  pub longer : length printed ≤ length (met s)

abbrev pub PutsPart : Type 0
PutsPart = (old new : Spelled) (text printed bytes : List ℕ) → IsHeld old text printed → (IsRight new → ⊥)
    → AppendsPart (Some (spoken old)) (Some (spoken new)) bytes → HasParted new text printed bytes

-- the text differs at this point
pub record IsOffHere (Start : List Line → Type 0) (text : List ℕ) (s : Spelled) : Type 0 where
  pub whole_is : whole s ≡ text
  pub off : IsOff Start text (met s)
