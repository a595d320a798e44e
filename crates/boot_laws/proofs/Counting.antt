-- Fewer numbers are missing from a list once one of them has come into it.
use Rattle.std.proofs.Common.{◌≡◌, ℕ, zero, suc, ◌+◌, ◌≤◌, ◌<◌, Bool, true, false, not, ◌||◌, List, [], ◌∷◌, refl, ap, arith, ◌==◌, inl, inr, ◌⊎◌, subst, lit≤}
use Rattle.std.proofs.lemmas.Bool.Decides.{nat_tests}
use Rattle.pi_base.specs.Lists.{numbers}
use Rattle.mod_catalog.specs.Parts.{has_number}

abbrev pub one_if : Bool → ℕ
one_if true = 1
one_if false = 0

-- how many of these are not among those
abbrev pub missing : List ℕ → List ℕ → ℕ
missing among [] = 0
missing among (n ∷ ns) = one_if (not (has_number among n)) + missing among ns

abbrev pub In : ℕ → List ℕ → Type 0
In x [] = ⊥
In x (y ∷ ys) = (x ≡ y) ⊎ In x ys

-- the first, or one behind it
low_or_later : (x from : ℕ) → from ≤ x → (x ≡ from) ⊎ (from + 1 ≤ x)
low_or_later x from low = elim (x == from) as (λ b. (x == from) ≡ b → (x ≡ from) ⊎ (from + 1 ≤ x)) [
  | true ↦ λ e. inl (grind (arith, nat_tests))
  | false ↦ λ e. inr (grind (arith, nat_tests))
] refl

pub in_numbers : (x from count : ℕ) → from ≤ x → x < from + count → In x (numbers from count)
in_numbers x from zero low high = absurd (omega (arith, low, high))
in_numbers x from (suc count) low high = elim (low_or_later x from low) [ inl e ↦ inl e | inr later ↦ inr (in_numbers x (from + 1) count later (omega (arith, high))) ]

one_if_le : (b : Bool) → one_if b ≤ 1
one_if_le true = lit≤ tt
one_if_le false = lit≤ tt

pub missing_most : (among : List ℕ) (from count : ℕ) → missing among (numbers from count) ≤ count
missing_most among from zero = lit≤ tt
missing_most among from (suc count) =
    let here = one_if_le (not (has_number among from)) in
    let later = missing_most among (from + 1) count in omega arith

-- a number that is among fewer
one_less : (b c : Bool) → one_if (not (b || c)) ≤ one_if (not c)
one_less true true = lit≤ tt
one_less true false = lit≤ tt
one_less false c = omega arith

no_more : (x : ℕ) (among xs : List ℕ) → missing (x ∷ among) xs ≤ missing among xs
no_more x among [] = lit≤ tt
no_more x among (y ∷ ys) =
    let here : one_if (not (has_number (x ∷ among) y)) ≤ one_if (not (has_number among y)) = one_less (x == y) (has_number among y) in
    let later = no_more x among ys in omega arith

pub fewer : (x : ℕ) (among xs : List ℕ) → has_number among x ≡ false → In x xs → missing (x ∷ among) xs < missing among xs
fewer x among [] new h = absurd h
fewer x among (y ∷ ys) new (inl e) =
    let t : (x == y) ≡ true = grind (arith, nat_tests) in
    let was : has_number among y ≡ false = subst (λ (n : ℕ). has_number among n ≡ false) e new in
    let before : one_if (not (has_number among y)) ≡ 1 = ap (λ b. one_if (not b)) was in
    let after : one_if (not (has_number (x ∷ among) y)) ≡ 0 = ap (λ b. one_if (not (b || has_number among y))) t in
    let later = no_more x among ys in omega arith
fewer x among (y ∷ ys) new (inr h) =
    let here : one_if (not (has_number (x ∷ among) y)) ≤ one_if (not (has_number among y)) = one_less (x == y) (has_number among y) in
    let later = fewer x among ys new h in omega arith
