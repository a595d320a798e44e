-- Comparisons of bytes.
use Rattle.std.proofs.Common.{◌≡◌, ℕ, Bool, true, false, eqb, List, refl, Decides, bytes_eq}
use Rattle.std.specs.Cmp.Lexicographic.{pointwise}
use Rattle.std.proofs.{lemmas.Bool.Decides.Decides-eqb, lemmas.Slice.Eq.slice_eq-Decides}

pub same : (a b : List ℕ) → Decides (bytes_eq a b) (a ≡ b)
same a b = slice_eq-Decides Decides-eqb a b (bytes_eq a b) refl

-- a comparison that fails
pub not_same : (a b : List ℕ) (r : Bool) → r ≡ pointwise eqb a b → r ≡ false → a ≡ b → ⊥
not_same a b r is other same =
    let yes : r ≡ true = (slice_eq-Decides Decides-eqb a b r is).1 same in
    cc
