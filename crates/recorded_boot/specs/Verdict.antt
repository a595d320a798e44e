-- What the check of a text answers: that it is the whole text of some free boot, or the first line with which it is no such boot's any more.
-- Own; PI 1.8, volumes 1 and 2, leave the order of eligible modules to the dispatchers.
use Rattle.std.specs.Prelude.{◌≡◌, ◌≤◌, ◌<◌, ℕ, List, Some}
use Rattle.boot_io.specs.Faults.{IsPrefix}
use Rattle.boot_model.specs.{declared.line.Line.Line, Text.text_of}
use Rattle.recorded_boot.specs.{Lines.front_lines, declared.trace.verdict.Verdict.Verdict}
use Rattle.recorded_boot.specs.declared.trace.verdict.Verdict.TheVariants.{Yes, No}

-- the text is that of the lines of some boot
abbrev pub IsBoot : (List Line → Type 0) → List ℕ → Type 0
IsBoot Lines text = (lines : List Line) × Lines lines × (text ≡ text_of lines)

-- the text has so many lines, each ended by its line feed, and some boot's text begins with them
pub record BeginsBoot (Lines : List Line → Type 0) (text : List ℕ) (count : ℕ) : Type 0 where
  pub front : List ℕ
  pub is : front_lines count text ≡ Some front
  pub lines : List Line
  pub boots : Lines lines
  pub begins : IsPrefix front (text_of lines)

-- this line, from 1, is the first with which the text begins no boot, and the text is no boot's
pub record IsFirstOff (Lines : List Line → Type 0) (text : List ℕ) (line : ℕ) : Type 0 where
  pub some : 1 ≤ line
  pub no_boot : IsBoot Lines text → ⊥
  pub off : BeginsBoot Lines text line → ⊥
  pub first : (count : ℕ) → 1 ≤ count → count < line → BeginsBoot Lines text count

abbrev pub IsVerdict : (List Line → Type 0) → List ℕ → Verdict → Type 0
IsVerdict Lines text Yes = IsBoot Lines text
IsVerdict Lines text (No line) = IsFirstOff Lines text line
