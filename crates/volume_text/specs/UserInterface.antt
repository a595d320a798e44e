-- Names in user interface sections (PI 1.8, volume 3, `EFI_SECTION_USER_INTERFACE`): UTF-16 with a zero at its end. Own: of which characters a word can say.
use Rattle.std.specs.Prelude.{◌≡◌, ℕ, ◌<◌, Bool, true, not, ◌==◌, ◌||◌, ◌&&◌, nat_lt, nat_le, List, [], ◌∷◌, ◌++◌, length, flat_map, Option, Some, None}
use Rattle.std.specs.List.{list_all}

-- a character of ASCII that stands in a word: no blank, and neither `#` nor a round bracket
abbrev pub is_name_byte : ℕ → Bool
is_name_byte byte = nat_lt 32 byte && (nat_le byte 126 && not ((byte == 35) || ((byte == 40) || (byte == 41))))

abbrev pub is_ui_name : List ℕ → Bool
is_ui_name name = list_all is_name_byte name

-- a character in two bytes
abbrev pub wide : ℕ → List ℕ
wide byte = byte ∷ (0 ∷ [])

-- the body of the section with a name
abbrev pub ui_bytes : List ℕ → List ℕ
ui_bytes name = flat_map wide name ++ (0 ∷ (0 ∷ []))

-- the first byte of each two
abbrev pub low_bytes : List ℕ → List ℕ
low_bytes (low ∷ (high ∷ rest)) = low ∷ low_bytes rest
low_bytes _ = []

-- a body is that of a section with a name that a word can say
pub record IsNamed (body name : List ℕ) : Type 0 where
  pub some : 0 < length name
  pub shown : is_ui_name name ≡ true
  pub bytes : body ≡ ui_bytes name

-- the name in a body, or none
abbrev pub FindsName : List ℕ → Option (List ℕ) → Type 0
FindsName body (Some name) = IsNamed body name
FindsName body None = (name : List ℕ) → IsNamed body name → ⊥
