-- The text of a trace (own).
use Rattle.std.specs.Prelude.{◌≡◌, ◌+◌, ◌<◌, ◌++◌, ℕ, List, length, ⊤}
use Rattle.std.specs.List.{AllByRecursion}
use Rattle.boot_model.specs.{declared.line.Line.Line, Text.line_text, Text.text_of}
use Rattle.trace_reader.specs.{declared.fault.TraceFault.TraceFault, Readable.IsReadable}
use Rattle.trace_reader.specs.declared.fault.TraceFault.TheVariants as F

-- the text is that of readable lines
abbrev pub IsTrace : List ℕ → List Line → Type 0
IsTrace text lines = (text ≡ text_of lines) × AllByRecursion IsReadable lines

-- a text continues with a readable line
abbrev pub BeginsWithLine : List ℕ → Type 0
BeginsWithLine text = (line : Line) × (rest : List ℕ) × IsReadable line × (text ≡ line_text line ++ rest)

-- after the readable lines at its front the text continues, but with no readable line: so many are before it, from 1
abbrev pub IsBadLine : List ℕ → ℕ → Type 0
IsBadLine text number = (lines : List Line) × (rest : List ℕ) × (text ≡ text_of lines ++ rest) × AllByRecursion IsReadable lines
    × (number ≡ length lines + 1) × (0 < length rest) × (BeginsWithLine rest → ⊥)

-- what is wrong with a text: its first line that is the text of no readable line, or memory ran out
abbrev pub IsFaultOf : List ℕ → TraceFault → Type 0
IsFaultOf text (F.Bad line) = IsBadLine text line
IsFaultOf text F.Memory = ⊤
