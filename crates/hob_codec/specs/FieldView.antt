-- The bytes of slices, one after another.
use Rattle.std.specs.Prelude.{ℕ, List, flat_map}
use Rattle.std.specs.Borrow.{Bor}

abbrev pub all_bytes : List (Bor (List ℕ)) → List ℕ
all_bytes fields = flat_map (λ field. field.now) fields
