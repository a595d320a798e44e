-- Whether a place is one of a list.
use Rattle.std.proofs.Common.{◌≡◌, ℕ, zero, suc, ◌≤◌, ◌<◌, true, List, [], ◌∷◌, length, arith, sym, Option, Some, None, slice_get, is_some}
use Rattle.std.proofs.lemmas.Option.{slice_get_within}

pub told_within : {A : Type 0} (xs : List A) (n : ℕ) (x : A) → Some x ≡ slice_get xs n → n < length xs
told_within xs n x e = slice_get_within xs n x (sym e)

pub within : {A : Type 0} (xs : List A) (n : ℕ) (o : Option A) → o ≡ slice_get xs n → is_some o ≡ true → n < length xs
within xs n None e h = cc
within xs n (Some x) e h = told_within xs n x e

pub past : {A : Type 0} (xs : List A) (n : ℕ) → slice_get xs n ≡ None → length xs ≤ n
past [] n e = omega arith
past (x ∷ xs) zero e = cc
past (x ∷ xs) (suc n) e = omega (arith, past xs n e)

pub none_past : {A : Type 0} (xs : List A) (n : ℕ) → None ≡ slice_get xs n → length xs ≤ n
none_past xs n e = past xs n (sym e)
