-- What holds of each item of a list, and which numbers a list has.
use Rattle.std.proofs.Common.{◌≡◌, ℕ, zero, suc, ◌<◌, ◌==◌, Bool, true, false, ◌||◌, List, [], ◌∷◌, ◌++◌, length, get_or, refl, ap, arith, ◌≢◌}
use Rattle.std.proofs.lemmas.Bool.Decides.{nat_tests}
use Rattle.pi_base.specs.Lists.{Each}
use Rattle.mod_catalog.specs.Parts.{has_number}

pub both_not : (a b : Bool) → a ≡ false → b ≡ false → (a || b) ≡ false
both_not true b h k = cc
both_not false b h k = k

pub each_get : {A : Type 0} (P : A → Type 0) (xs : List A) (i : ℕ) (d : A) → Each P xs → i < length xs → P (get_or xs i d)
each_get P [] i d e below = absurd (omega (arith, below))
each_get P (x ∷ xs) zero d e below = e.0
each_get P (x ∷ xs) (suc i) d e below = each_get P xs i d e.1 (omega (arith, below))

other_first : (x n : ℕ) (here later : Bool) → (x == n) ≡ here → x ≢ n → later ≡ false → (here || later) ≡ false
other_first x n true later e differs h = let same : x ≡ n = grind (arith, nat_tests) in absurd (differs same)
other_first x n false later e differs h = h

-- a number that each of a list differs from is not in it
pub absent : (xs : List ℕ) (n : ℕ) → Each (λ x. x ≢ n) xs → has_number xs n ≡ false
absent [] n e = refl
absent (x ∷ xs) n e = other_first x n (x == n) (has_number xs n) refl e.0 (absent xs n e.1)

pub turned : (x y : ℕ) → (x == y) ≡ false → (y == x) ≡ false
turned x y h = grind (arith, nat_tests)

-- another number is among these where it was before one more
pub has_pushed : (xs : List ℕ) (x n : ℕ) → (x == n) ≡ false → has_number (xs ++ x ∷ []) n ≡ has_number xs n
has_pushed [] x n h = both_not (x == n) false h refl
has_pushed (y ∷ ys) x n h = ap (λ b. (y == n) || b) (has_pushed ys x n h)
