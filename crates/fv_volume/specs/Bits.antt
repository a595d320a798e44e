-- Bits of a byte.
use Rattle.std.specs.Prelude.{ℕ, Bool, nat_lt, bit_and}

-- whether a bit of the mask is set
abbrev pub is_set : ℕ → ℕ → Bool
is_set bits mask = nat_lt 0 (bit_and bits mask)
