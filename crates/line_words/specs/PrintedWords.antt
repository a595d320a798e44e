-- Words and lines of printed texts (own): a word has no space and no control character, and a line no line feed.
use Rattle.std.specs.Prelude.{◌≡◌, ◌==◌, ℕ, List, length, not, nat_lt, true, Option, Some, None}
use Rattle.std.specs.List.{list_all}
use Rattle.hex.specs.Hex.{IsBytes}
use Rattle.pi_base.specs.declared.guid.Guid.{Guid}

-- the value that has the fact, or none if no value has it
abbrev pub Finds : {A : Type 0} → (A → Type 0) → Option A → Type 0
Finds Is (Some value) = Is value
Finds Is None = (value : _) → Is value → ⊥

-- sixteen bytes
abbrev pub IsGuid : Guid → Type 0
IsGuid guid = (length guid.0 ≡ 16) × IsBytes guid.0

-- each byte of a word is above the space
abbrev pub IsPlain : List ℕ → Type 0
IsPlain word = list_all (λ byte. nat_lt 32 byte) word ≡ true

-- a byte does not occur
abbrev pub Lacks : ℕ → List ℕ → Type 0
Lacks sought bytes = list_all (λ byte. not (byte == sought)) bytes ≡ true
