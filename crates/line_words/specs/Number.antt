-- The numbers of a line (own): decimal digits, or `0x` and hexadecimal digits of either case, below 2^64.
use Rattle.std.specs.Prelude.{ℕ, ◌+◌, ◌*◌, ◌^◌, Bool, ◌&&◌, nat_lt, ◌==◌, if◌then◌else◌, List, [], ◌∷◌, length, Option, Some, None}
use Rattle.std.specs.{Char.digit_value, Char.is_digit, List.list_all}

-- the value of digits by their places: each counts its base once more for each digit after it
abbrev pub value_in : ℕ → List ℕ → ℕ
value_in base [] = 0
value_in base (digit ∷ digits) = digit_value digit * base ^ length digits + value_in base digits

-- one digit of the base at least, and no other byte
abbrev pub are_digits : ℕ → List ℕ → Bool
are_digits base digits = nat_lt 0 (length digits) && list_all (λ digit. is_digit digit base) digits

-- the number that digits spell, if they are digits and it is below 2^64
abbrev pub number_in : ℕ → List ℕ → Option ℕ
number_in base digits = if are_digits base digits && nat_lt (value_in base digits) (2 ^ 64) then Some (value_in base digits) else None

-- the number that a word spells
abbrev pub number_of : List ℕ → Option ℕ
number_of [] = number_in 10 []
number_of (first ∷ []) = number_in 10 (first ∷ [])
number_of (first ∷ second ∷ digits) = if (first == 48) && (second == 120) then number_in 16 digits else number_in 10 (first ∷ second ∷ digits)
