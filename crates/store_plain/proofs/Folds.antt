-- A fold over a list goes on with the item in its place.
use Rattle.std.proofs.Common.{◌≡◌, ℕ, zero, suc, ◌+◌, ◌≤◌, ◌<◌, List, [], ◌∷◌, length, drop, get_or, arith, ap, length-drop, fold}

pub fold_on : {S A : Type 0} (f : S → A → S) (s t : S) (xs : List A) (i : ℕ) (d : A) → i < length xs → t ≡ f s (get_or xs i d) → fold f t (drop (i + 1) xs) ≡ fold f s (drop i xs)
fold_on f s t [] i d le e = absurd (omega (arith, le))
fold_on f s t (x ∷ xs) zero d le e = ap (λ u. fold f u xs) e
fold_on f s t (x ∷ xs) (suc i) d le e = let next : suc i + 1 ≡ suc (i + 1) = omega arith in rw next (fold_on f s t xs i d (omega (arith, le)) e)

pub one_less : {A : Type 0} (i : ℕ) (xs : List A) → i < length xs → length (drop i xs) ≡ length (drop (i + 1) xs) + 1
one_less i xs le = omega (arith, le, length-drop i xs, length-drop (i + 1) xs)

pub none_less : {A : Type 0} (i : ℕ) (xs : List A) → length xs ≤ i → length (drop i xs) ≡ 0
none_less i xs le = omega (arith, le, length-drop i xs)
