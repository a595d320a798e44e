-- Which numbers are in a list.
use Rattle.std.proofs.Common.{◌≡◌, ℕ, Bool, true, false, ◌||◌, List, [], ◌∷◌, ◌++◌, arith, refl, ap, sym, ◌∙◌, ◌==◌}
use Rattle.std.proofs.{lemmas.Bool.Decides.nat_tests, lemmas.List.Folds.list_any-append}
use Rattle.boot_model.specs.Licence.{AllDiffer}
use Rattle.mod_catalog.specs.Parts.{has_number}

pub or_right : (a b : Bool) → a ≡ false → (a || b) ≡ true → b ≡ true
or_right true b e h = absurd (cc)
or_right false b e h = h

pub has_append : (xs ys : List ℕ) (n : ℕ) → has_number (xs ++ ys) n ≡ (has_number xs n || has_number ys n)
has_append xs ys n = list_any-append (λ other. other == n) xs ys

pub has_front : (xs ys : List ℕ) (n : ℕ) → has_number xs n ≡ true → has_number (xs ++ ys) n ≡ true
has_front xs ys n h = has_append xs ys n ∙ ap (λ b. b || has_number ys n) h

-- lists that differ have no number in common
pub apart : (xs ys : List ℕ) (n : ℕ) → AllDiffer (xs ++ ys) → has_number ys n ≡ true → has_number xs n ≡ false
apart [] ys n d h = refl
apart (x ∷ xs) ys n d h = by (x == n) refl (apart xs ys n d.1 h)
  where
    by : (b : Bool) → (x == n) ≡ b → has_number xs n ≡ false → (b || has_number xs n) ≡ false
    by false e later = later
    by true e later =
        let same : x ≡ n = grind (arith, nat_tests) in
        let none : has_number (xs ++ ys) n ≡ false = ap (λ k. has_number (xs ++ ys) k) (sym same) ∙ d.0 in
        let all : has_number (xs ++ ys) n ≡ true = has_append xs ys n ∙ ap (λ b. b || has_number ys n) later ∙ h in
        absurd (cc)
