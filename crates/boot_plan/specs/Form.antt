-- The forms of a line (own): `temp BASE SIZE`, `ram BASE SIZE`, `volume BASE NAME`, `fuel N` and `pages SIZE`. Words are separated by one or more spaces, and
-- no space is before the first or after the last.
use Rattle.std.specs.Prelude.{ℕ, ◌&&◌, nat_le, if◌then◌else◌, List, [], ◌∷◌, length, Option, Some, None, codes, bytes_eq}
use Rattle.boot_plan.specs.Entry.{Entry, Temp, Ram, Volume, Fuel, Pages}
use Rattle.line_words.specs.Words.{words, is_plain}
use Rattle.boot_plan.specs.declared.limits.TheConstants.{MOST_NAME}

-- a line of two words
abbrev pub short_form : List ℕ → List ℕ → Option (Entry (List ℕ))
short_form keyword number =
    if bytes_eq keyword (codes "fuel") then Some (Fuel number)
    else if bytes_eq keyword (codes "pages") then Some (Pages number)
    else None

-- a line of three words
abbrev pub long_form : List ℕ → List ℕ → List ℕ → Option (Entry (List ℕ))
long_form keyword base last =
    if bytes_eq keyword (codes "temp") then Some (Temp base last)
    else if bytes_eq keyword (codes "ram") then Some (Ram base last)
    else if bytes_eq keyword (codes "volume") && nat_le (length last) MOST_NAME then Some (Volume base last)
    else None

-- the form that a line's words have
abbrev pub form_of_words : List (List ℕ) → Option (Entry (List ℕ))
form_of_words [] = None
form_of_words (keyword ∷ []) = None
form_of_words (keyword ∷ number ∷ []) = short_form keyword number
form_of_words (keyword ∷ base ∷ last ∷ []) = long_form keyword base last
form_of_words (keyword ∷ base ∷ last ∷ more ∷ words) = None

-- the form of a line
abbrev pub form_of : List ℕ → Option (Entry (List ℕ))
form_of line = if is_plain line then form_of_words (words line) else None
