-- What the lines of a text say, each with its number from 1.
use Rattle.std.specs.Prelude.{ℕ, ◌+◌, List, [], ◌∷◌, Option, Some, None, option_map, if◌then◌else◌, option_and_then, filter_map}
use Rattle.std.specs.List.{cons_option}
use Rattle.line_words.specs.Line.{is_passed_over}
use Rattle.boot_plan.specs.{Form.form_of, declared.draft.Area.Area, declared.draft.Amount.Amount, declared.plan.PlanVolume.PlanVolume}
use Rattle.boot_plan.specs.Entry.{Entry, Temp, Ram, Volume, Fuel, Pages, read_entry}

-- an entry and the number of its line
pub record Said : Type 0 where
  pub line : ℕ
  pub entry : Entry ℕ

-- the entry of a line that a reader does not skip, if it has a form and numbers
abbrev pub entry_of : List ℕ → Option (Entry ℕ)
entry_of line = if is_passed_over line then None else option_and_then read_entry (form_of line)

-- what the lines say, the first of them with this number
abbrev pub said_from : ℕ → List (List ℕ) → List Said
said_from number [] = []
said_from number (line ∷ lines) = cons_option (option_map (λ entry. record { line = number; entry = entry }) (entry_of line)) (said_from (number + 1) lines)

abbrev pub said : List (List ℕ) → List Said
said lines = said_from 1 lines

abbrev pub temp_in : ℕ → Entry ℕ → Option Area
temp_in line (Temp base size) = Some (record { line = line; base = base; size = size })
temp_in line _ = None

abbrev pub ram_in : ℕ → Entry ℕ → Option Area
ram_in line (Ram base size) = Some (record { line = line; base = base; size = size })
ram_in line _ = None

abbrev pub volume_in : Entry ℕ → Option PlanVolume
volume_in (Volume base name) = Some (record { base = base; name = name })
volume_in _ = None

abbrev pub fuel_in : ℕ → Entry ℕ → Option Amount
fuel_in line (Fuel count) = Some (record { line = line; value = count })
fuel_in line _ = None

abbrev pub pages_in : ℕ → Entry ℕ → Option Amount
pages_in line (Pages size) = Some (record { line = line; value = size })
pages_in line _ = None

-- the `temp` lines, the `ram` lines, the `volume` lines, the `fuel` lines and the `pages` lines, in order
abbrev pub temps : List Said → List Area
temps said = filter_map (λ s. temp_in s.line s.entry) said

abbrev pub rams : List Said → List Area
rams said = filter_map (λ s. ram_in s.line s.entry) said

abbrev pub volumes : List Said → List PlanVolume
volumes said = filter_map (λ s. volume_in s.entry) said

abbrev pub fuels : List Said → List Amount
fuels said = filter_map (λ s. fuel_in s.line s.entry) said

abbrev pub pages : List Said → List Amount
pages said = filter_map (λ s. pages_in s.line s.entry) said
