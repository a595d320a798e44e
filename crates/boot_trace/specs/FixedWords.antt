-- Fixed words (own).
use Rattle.std.specs.Prelude.{◌≡◌, ℕ, List, nat_lt, true}
use Rattle.std.specs.List.{list_all}

-- each byte of a word is above the space
abbrev pub IsPlain : List ℕ → Type 0
IsPlain word = list_all (λ byte. nat_lt 32 byte) word ≡ true
