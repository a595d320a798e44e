-- Registers as words (own).
use Rattle.std.specs.Prelude.{ℕ, List, ◌∷◌, decimal}

-- a register: `r` and its number
abbrev pub register : ℕ → List ℕ
register r = 114 ∷ decimal r
