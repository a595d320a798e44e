-- Tests that fail.
use Rattle.std.proofs.Common.{◌≡◌, Bool, true, false, List, [], ◌∷◌, refl, arith, All, ◌||◌}
use Rattle.std.proofs.lemmas.List.Elements.{All-cons}
use Rattle.std.specs.List.{list_any}

-- where neither of two tests passes, the first does not, and the second does not
pub or_first : (a b : Bool) → (a || b) ≡ false → a ≡ false
or_first true b e = absurd cc
or_first false b e = refl

pub or_second : (a b : Bool) → (a || b) ≡ false → b ≡ false
or_second true b e = absurd cc
or_second false b e = e

-- where none passes a test, each one does not
pub none_pass : {X : Type 0} (test : X → Bool) (xs : List X) → list_any test xs ≡ false → All (λ x. test x ≡ false) xs
none_pass test [] none = λ i d within. absurd (omega arith)
none_pass test (x ∷ xs) none =
    All-cons (λ y. test y ≡ false) x xs (or_first (test x) (list_any test xs) none) (none_pass test xs (or_second (test x) (list_any test xs) none))
