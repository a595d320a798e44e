-- The text of an MP file, and when a text is not one (own). Lines that are empty or begin with `#` are skipped.
use Rattle.std.specs.Prelude.{◌≡◌, ℕ, ◌+◌, not, List, [], ◌∷◌, length, map, filter, Option, Some, None, is_none, option_map, find}
use Rattle.std.specs.List.{enumerate_from}
use Rattle.line_words.specs.Line.{lines, is_passed_over}
use Rattle.mp_core.specs.{declared.event.MpEvent.MpEvent, declared.file.MpFile.MpFile, LineText.head_of, LineText.event_of}

-- lines that are not skipped, each with its number, the first line having this one
abbrev pub numbered_from : ℕ → List (List ℕ) → List (ℕ × List ℕ)
numbered_from number lines = filter (λ line. not (is_passed_over line.1)) (enumerate_from number lines)

-- those of a text, numbered from one on
abbrev pub numbered : List ℕ → List (ℕ × List ℕ)
numbered text = numbered_from 1 (lines text)

-- what lines spell
abbrev pub spelled : ℕ → ℕ → List (ℕ × List ℕ) → List (Option MpEvent)
spelled processors cells lines = map (λ line. event_of processors cells line.1) lines

-- the number of the first line that spells no event
abbrev pub first_without_event : ℕ → ℕ → List (ℕ × List ℕ) → Option ℕ
first_without_event processors cells lines = option_map (λ line. line.0) (find (λ line. is_none (event_of processors cells line.1)) lines)

-- the first line is the head's, and each other one an event's
abbrev pub AreLinesOf : MpFile → List (ℕ × List ℕ) → Type 0
AreLinesOf file [] = ⊥
AreLinesOf file (first ∷ rest) =
    (head_of first.1 ≡ Some (file.processors, file.cells))
    × (spelled file.processors file.cells rest ≡ map (λ event. Some event) file.events)

-- the file that a text describes
abbrev pub IsMpFile : List ℕ → MpFile → Type 0
IsMpFile text file = AreLinesOf file (numbered text)

-- the number of the first bad line: if the first line is a head, the first one that spells no event, else the first line
abbrev pub first_bad_by : ℕ → List (ℕ × List ℕ) → Option (ℕ × ℕ) → Option ℕ
first_bad_by number rest None = Some number
first_bad_by number rest (Some head) = first_without_event head.0 head.1 rest

-- if there is no line, it is the number that the next line would have
abbrev pub first_bad : ℕ → List (ℕ × List ℕ) → Option ℕ
first_bad next [] = Some next
first_bad next (first ∷ rest) = first_bad_by first.0 rest (head_of first.1)

-- the number of the first line of a text that is of no form or out of the needs
abbrev pub IsFirstBad : List ℕ → ℕ → Type 0
IsFirstBad text number = first_bad (length (lines text) + 1) (numbered text) ≡ Some number
