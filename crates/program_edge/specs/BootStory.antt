-- What the lines of a boot show that no status says: how many modules wait, the first refused `memory`, and drivers of volumes that were not discovered (own).
use Rattle.std.specs.Prelude.{ℕ, ◌+◌, ◌-◌, ◌==◌, Bool, not, ◌&&◌, nat_eq, nat_lt, if◌then◌else◌, List, [], ◌∷◌, Option, Some, None, codes, drop, length}
use Rattle.std.specs.List.{filter, list_any, starts_with}
use Rattle.line_words.specs.Number.{number_of}
use Rattle.program_edge.specs.declared.noted_volumes.NotedVolume.{NotedVolume}

-- a line begins so
abbrev pub has_front : List ℕ → List ℕ → Bool
has_front front line = starts_with nat_eq line front

-- what follows the beginning in the first line that has it
abbrev pub first_behind : List ℕ → List (List ℕ) → Option (List ℕ)
first_behind front [] = None
first_behind front (line ∷ rest) = if has_front front line then Some (drop (length front) line) else first_behind front rest

-- how many lines begin so
abbrev pub count_behind : List ℕ → List (List ℕ) → ℕ
count_behind front [] = 0
count_behind front (line ∷ rest) = (if has_front front line then 1 else 0) + count_behind front rest

-- the service `memory` was refused
abbrev pub is_refusal : List ℕ → Bool
is_refusal line = has_front (codes "call memory ") line && not (has_front (codes "call memory Success") line)

-- the last start of a PEIM, with one line more
abbrev pub last_start : List ℕ → List ℕ → List ℕ
last_start start line = if has_front (codes "pei start ") line then line else start

-- the line of the last start before the first refused `memory`, and the line of the refusal
abbrev pub refusal_behind : List ℕ → List (List ℕ) → Option (List ℕ × List ℕ)
refusal_behind start [] = None
refusal_behind start (line ∷ rest) = if is_refusal line then Some (start, line) else refusal_behind (last_start start line) rest

-- a number, if it is this one
abbrev pub is_number : ℕ → Option ℕ → Bool
is_number number None = nat_lt number 0
is_number number (Some found) = found == number

-- a line says that DXE discovered the volume
abbrev pub is_discovery : ℕ → List ℕ → Bool
is_discovery volume line = has_front (codes "dxe volume ") line && is_number volume (number_of (drop 11 line))

-- DXE discovered the volume
abbrev pub is_discovered : ℕ → List (List ℕ) → Bool
is_discovered volume all = list_any (is_discovery volume) all

-- how many drivers a volume has; a volume of the plan and those nested in it are numbered before those of the next one
abbrev pub drivers_in : List NotedVolume → ℕ → ℕ
drivers_in [] volume = 0
drivers_in (noted ∷ rest) volume =
    if nat_lt volume noted.count then length (filter (λ number. number == volume) noted.drivers) else drivers_in rest (volume - noted.count)

-- how many of them DXE never discovered
abbrev pub lost_drivers : List NotedVolume → List (List ℕ) → ℕ → ℕ
lost_drivers volumes all volume = if is_discovered volume all then 0 else drivers_in volumes volume
