-- Why a text is not an MP file, and what lines leave of the events that are read.
use Rattle.std.specs.Prelude.{◌≡◌, ℕ, List, [], ◌∷◌, ◌++◌, map, Some, None, Result, Ok, Err}
use Rattle.mp_core.specs.{declared.event.MpEvent.MpEvent, declared.fault.MpFault.MpFault}
use Rattle.mp_core.specs.{declared.fault.MpFault.TheVariants.Bad, declared.fault.MpFault.TheVariants.Memory, LineText.head_of}
use Rattle.mp_core.specs.FileText.{numbered_from, spelled, first_without_event, first_bad_by, IsFirstBad}

-- the fault is that of the text's first bad line, unless memory runs out
abbrev pub IsMpFault : List ℕ → MpFault → Type 0
IsMpFault text (Bad line) = IsFirstBad text line
IsMpFault text Memory = Unit {0}

-- that of a first line with this number and the lines after it
abbrev pub IsFaultBehind : ℕ → List ℕ → List (ℕ × List ℕ) → MpFault → Type 0
IsFaultBehind number line rest (Bad at) = first_bad_by number rest (head_of line) ≡ Some at
IsFaultBehind number line rest Memory = Unit {0}

-- that of lines of events
abbrev pub IsEventFault : ℕ → ℕ → List (ℕ × List ℕ) → MpFault → Type 0
IsEventFault processors cells lines (Bad at) = first_without_event processors cells lines ≡ Some at
IsEventFault processors cells lines Memory = Unit {0}

-- what taking a line with its number leaves: the events with its own, if it is not skipped
abbrev pub TakesLine : ℕ → ℕ → List MpEvent → ℕ → List ℕ → Result (Unit {0}) MpFault → List MpEvent → Type 0
TakesLine processors cells old number line (Ok _) new =
    (first_without_event processors cells (numbered_from number (line ∷ [])) ≡ None)
    × (map (λ event. Some event) new ≡ map (λ event. Some event) old ++ spelled processors cells (numbered_from number (line ∷ [])))
TakesLine processors cells old number line (Err fault) new = IsEventFault processors cells (numbered_from number (line ∷ [])) fault
