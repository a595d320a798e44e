-- What a line of a plan says (own), by its first word. Its numbers are the words that spell them, or the numbers.
use Rattle.std.specs.Prelude.{ℕ, List, Option, Some, None, option_map}
use Rattle.line_words.specs.Number.{number_of}

pub data Entry (N : Type 0) : Type 0 where
  Temp : N → N → Entry N
  Ram : N → N → Entry N
  Volume : N → List ℕ → Entry N
  Fuel : N → Entry N
  Pages : N → Entry N

-- an entry of two numbers, if both words spell one
abbrev pub both : (ℕ → ℕ → Entry ℕ) → Option ℕ → Option ℕ → Option (Entry ℕ)
both entry None second = None
both entry (Some first) None = None
both entry (Some first) (Some second) = Some (entry first second)

-- the entry with its numbers read, if each word spells one
abbrev pub read_entry : Entry (List ℕ) → Option (Entry ℕ)
read_entry (Temp base size) = both (λ base size. Temp base size) (number_of base) (number_of size)
read_entry (Ram base size) = both (λ base size. Ram base size) (number_of base) (number_of size)
read_entry (Volume base name) = option_map (λ base. Volume base name) (number_of base)
read_entry (Fuel count) = option_map (λ count. Fuel count) (number_of count)
read_entry (Pages size) = option_map (λ size. Pages size) (number_of size)
