-- A text with which a boot's output is compared, as a sink.
-- A core that writes to a sink says afterwards only what the sink's text is. So the sink's text contains the compared text too, before what was written. Own.
use Rattle.std.specs.Prelude.{◌≡◌, ℕ, ◌+◌, List, [], ◌∷◌, ◌++◌, take, drop, option_to_list}
use Rattle.recorded_boot.specs.declared.trace.spelled.Spelled.{Spelled}

-- the whole text
abbrev pub whole : Spelled → List ℕ
whole s = s.text.now

-- the beginning of it that was met
abbrev pub met : Spelled → List ℕ
met s = take s.at s.text.now

-- what follows that
abbrev pub left : Spelled → List ℕ
left s = drop s.at s.text.now

-- what was written, as far as it is known: what was matched, and the first byte that differs
abbrev pub told : Spelled → List ℕ
told s = met s ++ option_to_list s.wrong

-- how often a piece differed from the text
abbrev pub faults_of : Spelled → ℕ
faults_of s = s.faults

-- all that was written is in the text
abbrev pub IsRight : Spelled → Type 0
IsRight s = s.faults ≡ 0

-- a text that others may follow: each byte one higher, and a 0
abbrev pub marked : List ℕ → List ℕ
marked [] = 0 ∷ []
marked (byte ∷ bytes) = (byte + 1) ∷ marked bytes

-- the sink's text: the whole compared text, marked, and what was written
abbrev pub spoken : Spelled → List ℕ
spoken s = marked (whole s) ++ told s

-- these bytes were written, and all are in the text
pub record GoesOn (old new : Spelled) (bytes : List ℕ) : Type 0 where
  pub whole_is : whole new ≡ whole old
  pub met_is : met new ≡ met old ++ bytes

-- the text, and what was met of it
pub record IsHeld (s : Spelled) (text printed : List ℕ) : Type 0 where
  pub whole_is : whole s ≡ text
  pub met_is : met s ≡ printed
  pub right : IsRight s
