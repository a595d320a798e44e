-- The name in a user interface section, and the word that shows it. The text is of UTF-16 code units and ends with a null; what stands behind the first null is no part of the name.
-- PI 1.8, volume 3, `EFI_SECTION_USER_INTERFACE`; the word is own.
use Rattle.std.specs.Prelude.{ℕ, ◌/◌, ◌%◌, Bool, ◌&&◌, ◌==◌, not, nat_le, if◌then◌else◌, List, [], ◌∷◌, flat_map, Option, Some, None, option_map}
use Rattle.hex.specs.Hex.{encode_lower}

-- the code units before the first null; none where there is no null
abbrev pub before_null : List ℕ → Option (List ℕ)
before_null [] = None
before_null (unit ∷ units) = if unit == 0 then Some [] else option_map (λ name. unit ∷ name) (before_null units)

-- whether a code unit is shown as it is: printable ASCII but the space and the backslash
abbrev pub is_plain : ℕ → Bool
is_plain unit = nat_le 0x21 unit && nat_le unit 0x7e && not (unit == 0x5c)

-- a code unit by its number, `\u` and four hexadecimal digits
abbrev pub escaped : ℕ → List ℕ
escaped unit = 0x5c ∷ 0x75 ∷ encode_lower (unit / 256 ∷ unit % 256 ∷ [])

abbrev pub unit_text : ℕ → List ℕ
unit_text unit = if is_plain unit then unit ∷ [] else escaped unit

abbrev pub units_text : List ℕ → List ℕ
units_text units = flat_map unit_text units

-- the word of a name: `-` where there is none or it is empty, so that the name `-` is escaped
abbrev pub name_word : List ℕ → List ℕ
name_word [] = 0x2d ∷ []
name_word (unit ∷ []) = if unit == 0x2d then escaped unit else unit_text unit
name_word (unit ∷ second ∷ units) = units_text (unit ∷ second ∷ units)

abbrev pub title_word : Option (List ℕ) → List ℕ
title_word None = 0x2d ∷ []
title_word (Some units) = name_word units
