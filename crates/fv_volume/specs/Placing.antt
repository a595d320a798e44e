-- How texts are placed one after another.
use Rattle.std.specs.Prelude.{ℕ, ◌+◌, ◌-◌, ◌%◌, List, [], ◌∷◌, ◌++◌, length, replicate}

-- how many bytes there are from a place to the next multiple of an alignment
abbrev pub gap : ℕ → ℕ → ℕ
gap alignment at = (alignment - at % alignment) % alignment

-- texts from a place on, each at the next multiple of the alignment, with this byte between them
abbrev pub laid : ℕ → ℕ → ℕ → List (List ℕ) → List ℕ
laid alignment between from [] = []
laid alignment between from (text ∷ rest) =
    replicate (gap alignment from) between ++ (text ++ laid alignment between (from + gap alignment from + length text) rest)

-- one after the other
abbrev pub joined : List (List ℕ) → List ℕ
joined [] = []
joined (text ∷ rest) = text ++ joined rest
