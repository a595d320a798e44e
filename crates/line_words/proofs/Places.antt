-- What follows a front.
use Rattle.std.proofs.Common.{◌≡◌, ℕ, ◌+◌, true, false, eqb, List, ◌++◌, length, take, drop, refl, sym, ap, ◌∙◌, Option, Some, None, MatchOption, Bor, take_at, take-append-drop}
use Rattle.std.specs.Cmp.Lexicographic.{pointwise}
use Rattle.line_words.proofs.Comparisons.{same}

front_there : (bytes front rest : List ℕ) → pointwise eqb (take (length front) bytes) front ≡ true → rest ≡ drop (length front) bytes → bytes ≡ front ++ rest
front_there bytes front rest test is =
    rw is (sym (take-append-drop (length front) bytes) ∙ ap (λ there. there ++ drop (length front) bytes) ((same (take (length front) bytes) front).0 test))

front_not_there : (bytes front rest : List ℕ) → pointwise eqb (take (length front) bytes) front ≡ false → bytes ≡ front ++ rest → ⊥
front_not_there bytes front rest other is =
    let there : take (length front) bytes ≡ front = rw is (take_at front rest (length front) refl) in
    let yes : pointwise eqb (take (length front) bytes) front ≡ true = (same (take (length front) bytes) front).1 there in
    cc

-- what `strip_prefix` answers
pub stripped : (bytes front : List ℕ) (r : Option (Bor (List ℕ)))
    → MatchOption r (pointwise eqb (take (length front) bytes) front ≡ false)
    (λ rest. (pointwise eqb (take (length front) bytes) front ≡ true) × (rest.now ≡ drop (length front) bytes) × (length rest.now + length front ≡ length bytes))
    → MatchOption r ((rest : List ℕ) → bytes ≡ front ++ rest → ⊥) (λ rest. bytes ≡ front ++ rest.now)
stripped bytes front (Some rest) is = front_there bytes front rest.now is.0 is.1
stripped bytes front None other = λ rest is. front_not_there bytes front rest other is
