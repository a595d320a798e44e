-- A text: its lines that count, the volume that they say, and the line at fault where they say none (own).
use Rattle.std.specs.Prelude.{◌≡◌, ◌⊎◌, ℕ, ◌+◌, ⊤, Bool, true, false, if◌then◌else◌, List, [], ◌∷◌, ◌++◌, length, map, Result, Ok, Err}
use Rattle.line_words.specs.Line.{lines}
use Rattle.source_words.specs.Words.{words}
use Rattle.volume_text.specs.{declared.fault.Cause.Cause, declared.fault.Cause.TheVariants.NoVolume, declared.fault.Cause.TheVariants.NoEnd}
use Rattle.volume_text.specs.{declared.fault.Fault.Fault, declared.fault.TextFault.TextFault, declared.step.State.State}
use Rattle.volume_text.specs.declared.fault.TextFault.TheVariants as text_fault
use Rattle.volume_text.specs.{declared.step.State.TheVariants.Begin, declared.step.State.TheVariants.Done, Step.Steps}
use Rattle.volume_text.specs.{declared.step.TheConstants.MOST_INSIDE, declared.volume.OpenVolume.OpenVolume}
use Rattle.volume_text.specs.Volume.{SaysOpen, SaysVolume}

abbrev pub passes_over : List (List ℕ) → Bool
passes_over [] = true
passes_over (word ∷ words) = false

-- a line that has no word: blanks, or a comment
abbrev pub is_passed_over : List ℕ → Bool
is_passed_over line = passes_over (words line)

-- the lines that count, each with its number, where the first of all has this number
abbrev pub counted : ℕ → List (List ℕ) → List (ℕ × List ℕ)
counted number [] = []
counted number (line ∷ rest) = if is_passed_over line then counted (number + 1) rest else (number, line) ∷ counted (number + 1) rest

abbrev pub numbered : List ℕ → List (ℕ × List ℕ)
numbered text = counted 1 (lines text)

-- the text describes this volume, whether it can be built or not
abbrev pub Describes : List ℕ → OpenVolume → Type 0
Describes text volume = SaysOpen MOST_INSIDE (map (λ line. line.1) (numbered text)) volume

-- the text describes the volume of these bytes
abbrev pub Says : List ℕ → List ℕ → Type 0
Says text bytes = SaysVolume MOST_INSIDE (map (λ line. line.1) (numbered text)) bytes

-- behind a line more, which may be passed over, this is open, or this is at fault
abbrev pub Moves : State → ℕ → List ℕ → Result State Fault → Type 0
Moves state number line taken = ((is_passed_over line ≡ true) × (taken ≡ Ok state)) ⊎ ((is_passed_over line ≡ false) × Steps state number line taken)

-- behind these lines this is open
abbrev pub Goes : State → List (ℕ × List ℕ) → State → Type 0
Goes from [] to = from ≡ to
Goes from (line ∷ lines) to = (next : State) × Steps from line.0 line.1 (Ok next) × Goes next lines to

-- the lines of the text lead to the volume of these bytes
abbrev pub Leads : List ℕ → List ℕ → Type 0
Leads text bytes = Goes Begin (numbered text) (Done bytes)

-- all lines before one of the text can stand as they do, and that one cannot
pub record IsBadLine (text : List ℕ) (fault : Fault) : Type 0 where
  pub before : List (ℕ × List ℕ)
  pub line : ℕ × List ℕ
  pub behind : List (ℕ × List ℕ)
  pub open_there : State
  pub here : numbered text ≡ before ++ line ∷ behind
  pub goes : Goes Begin before open_there
  pub wrong : Steps open_there line.0 line.1 (Err fault)

-- what is wrong where the text ends
abbrev pub IsEndCause : State → Cause → Type 0
IsEndCause Begin cause = cause ≡ NoVolume
IsEndCause (Done bytes) cause = ⊥
IsEndCause _ cause = cause ≡ NoEnd

-- all lines can stand as they do, and more have to come
pub record IsCutShort (text : List ℕ) (fault : Fault) : Type 0 where
  pub open_there : State
  pub goes : Goes Begin (numbered text) open_there
  pub line : fault.line ≡ length (lines text) + 1
  pub wrong : IsEndCause open_there fault.cause

-- why a text describes no volume
abbrev pub IsRefused : List ℕ → TextFault → Type 0
IsRefused text text_fault.Memory = ⊤
IsRefused text (text_fault.Bad fault) = IsBadLine text fault ⊎ IsCutShort text fault
