-- The words of a line and the numbers in them (own). A number is of decimal digits alone, and zeros may be before it.
use Rattle.std.specs.Prelude.{◌≡◌, ◌≢◌, ℕ, nat_lt, nat_le, ◌&&◌, ◌^◌, if◌then◌else◌, List, [], ◌∷◌, slice_index, Option, Some, None}
use Rattle.std.specs.Borrow.{Bor}
use Rattle.line_words.specs.{Words.words, Number.number_in}

-- a number that is below a limit
abbrev pub below : ℕ → Option ℕ → Option ℕ
below limit None = None
below limit (Some n) = if nat_lt n limit then Some n else None

-- the number that a word spells, if it is below a limit
abbrev pub number_below : ℕ → List ℕ → Option ℕ
number_below limit word = below limit (number_in 10 word)

-- the number of a processor, which need not be there
abbrev pub processor_of : List ℕ → Option ℕ
processor_of word = number_below (2 ^ 32) word

-- a number from one on that is not above the most
abbrev pub within : ℕ → Option ℕ → Option ℕ
within most None = None
within most (Some n) = if nat_le 1 n && nat_le n most then Some n else None

-- the count that a word spells
abbrev pub count_of : ℕ → List ℕ → Option ℕ
count_of most word = within most (number_in 10 word)

-- the first word of what is left of a line, and what is left after it
abbrev pub Cuts : List ℕ → Option (Bor (List ℕ) × Bor (List ℕ)) → Type 0
Cuts line None = words line ≡ []
Cuts line (Some cut) = (words line ≡ cut.0.now ∷ words cut.1.now) × (slice_index cut.1.now 0 ≢ 32)
