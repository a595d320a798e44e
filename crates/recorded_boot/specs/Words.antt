-- The words of a line of an order, and what they spell (own).
use Rattle.std.specs.Prelude.{◌≡◌, ◌≢◌, ℕ, nat_lt, ◌^◌, if◌then◌else◌, List, [], ◌∷◌, slice_index, Option, Some, None, option_map}
use Rattle.std.specs.Borrow.{Bor}
use Rattle.pi_base.specs.{declared.guid.Guid.Guid, GuidText.guid_of_text}
use Rattle.line_words.specs.{Words.words, Number.number_of}

-- a number that is below a limit
abbrev pub below : ℕ → Option ℕ → Option ℕ
below limit None = None
below limit (Some n) = if nat_lt n limit then Some n else None

-- the number of a volume, which need not be there
abbrev pub volume_of : List ℕ → Option ℕ
volume_of word = below (2 ^ 32) (number_of word)

-- the GUID whose usual text a word is, in either letter case
abbrev pub guid_of : List ℕ → Option Guid
guid_of word = option_map (λ bytes. record { 0 = bytes }) (guid_of_text word)

-- the first word of what is left of a line, and what is left after it
abbrev pub Cuts : List ℕ → Option (Bor (List ℕ) × Bor (List ℕ)) → Type 0
Cuts line None = words line ≡ []
Cuts line (Some cut) = (words line ≡ cut.0.now ∷ words cut.1.now) × (slice_index cut.1.now 0 ≢ 32)
