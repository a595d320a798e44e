-- The value of digits, one more at the end.
use Rattle.std.proofs.Common.{◌≡◌, ℕ, ◌+◌, ◌*◌, ◌^◌, ◌<◌, ◌≤◌, Bool, true, false, cond, ◌&&◌, ltb, List, [], ◌∷◌, ◌++◌, length, take, drop, refl, sym, ap, ◌∙◌, arith, length-append, get_or, take-append-drop, Option, Some, None, pow-add}
use Rattle.std.proofs.Math.Nat.{pow-suc, pow-zero, mul-le-mul_left, one-le-pow}
use Rattle.std.proofs.{lemmas.List.take_more, lemmas.List.Folds.list_all-append, lemmas.Bool.Decides.nat_tests}
use Rattle.std.specs.{Char.digit_value, Char.is_digit, List.list_all}
use Rattle.line_words.specs.Number.{value_in, number_in, are_digits}

-- digits behind digits
pub value-append : (base : ℕ) (xs ys : List ℕ) → value_in base (xs ++ ys) ≡ value_in base xs * base ^ length ys + value_in base ys
value-append base [] ys = omega arith
value-append base (x ∷ xs) ys =
    rw (length-append xs ys, pow-add base (length xs) (length ys), value-append base xs ys) (omega arith)

-- one digit more
pub value_more : (base : ℕ) (xs : List ℕ) (i digit : ℕ) → i < length xs → digit ≡ digit_value (get_or xs i 0)
    → value_in base (take i xs) * base + digit ≡ value_in base (take (i + 1) xs)
value_more base xs i digit within is =
    let e = value-append base (take i xs) (get_or xs i 0 ∷ []) in
    let none : base ^ 0 ≡ 1 = pow-zero base in
    let one : base ^ 1 ≡ base = pow-suc base 0 ∙ rw none (omega arith) in
    rw (take_more xs i 0 within, e, one, none) (omega (arith, is))

pub valid_more : (base : ℕ) (xs : List ℕ) (i : ℕ) → i < length xs → digit_value (get_or xs i 0) < base
    → list_all (λ digit. is_digit digit base) (take i xs) ≡ true → list_all (λ digit. is_digit digit base) (take (i + 1) xs) ≡ true
valid_more base xs i within valid before =
    let t : ltb (digit_value (get_or xs i 0)) base ≡ true = grind (arith, nat_tests) in
    rw (take_more xs i 0 within, list_all-append (λ digit. is_digit digit base) (take i xs) (get_or xs i 0 ∷ []), before, t) refl

-- the value of all digits is that of the first ones at least
pub value_grows : (base n : ℕ) (xs : List ℕ) → 0 < base → value_in base (take n xs) ≤ value_in base xs
value_grows base n xs some =
    let e = value-append base (take n xs) (drop n xs) in
    let whole : take n xs ++ drop n xs ≡ xs = take-append-drop n xs in
    let p : 1 ≤ base ^ length (drop n xs) = one-le-pow (length (drop n xs)) base some in
    let m : value_in base (take n xs) * 1 ≤ value_in base (take n xs) * base ^ length (drop n xs) = mul-le-mul_left (value_in base (take n xs)) p in
    let f : value_in base xs ≡ value_in base (take n xs) * base ^ length (drop n xs) + value_in base (drop n xs) = ap (value_in base) (sym whole) ∙ e in
    omega arith

never : (b : Bool) (n : ℕ) → ◌≡◌ {A = Option ℕ} None (cond (b && false) (Some n) None)
never true n = refl
never false n = refl

-- digits of too great a value
pub too_great : (base n : ℕ) (xs : List ℕ) → 0 < base → (value_in base (take n xs) < 2 ^ 64 → ⊥) → ◌≡◌ {A = Option ℕ} None (number_in base xs)
too_great base n xs some over =
    let grows = value_grows base n xs some in
    let t : ltb (value_in base xs) (2 ^ 64) ≡ false = grind (arith, nat_tests) in
    rw t (never (are_digits base xs) (value_in base xs))

-- digits that are a number
pub is_number : (base : ℕ) (xs : List ℕ) → 0 < length xs → list_all (λ digit. is_digit digit base) xs ≡ true → value_in base xs < 2 ^ 64 → ◌≡◌ {A = Option ℕ} (Some (value_in base xs)) (number_in base xs)
is_number base xs long valid within =
    let t : ltb 0 (length xs) ≡ true = grind (arith, nat_tests) in
    let u : ltb (value_in base xs) (2 ^ 64) ≡ true = grind (arith, nat_tests) in
    rw (t, valid, u) refl
