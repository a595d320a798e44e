-- The places that pass a test: they rise, one comes in or goes out, and the first of them from one on.
use Rattle.std.proofs.Common.{◌≡◌, ℕ, zero, suc, ◌+◌, ◌<◌, ◌≤◌, ◌==◌, Bool, true, false, cond, List, [], ◌∷◌, refl, sym, ap, ◌∙◌, subst, arith, Option, Some, None, inl, inr, filter, nat_lt, slice_get}
use Rattle.std.proofs.lemmas.Bool.Decides.{eqb_tells, nat_tests}
use Rattle.pi_base.specs.Lists.{Each, numbers}
use Rattle.guid_lists.specs.Lists.{Rises, leading, with_number, without_number}
use Rattle.guid_lists.specs.Places.{IsFirstFrom}

-- those from a place on
abbrev pub from_on : (ℕ → Bool) → ℕ → ℕ → List ℕ
from_on t at count = filter t (numbers at count)

pub above : (t : ℕ → Bool) (at c n : ℕ) → n < at → Each (λ k. n < k) (from_on t at c)
above t at zero n less = tt
above t at (suc c) n less =
    let rest = above t (at + 1) c n (omega (arith, less)) in
    elim (t at) as (λ b. Each (λ k. n < k) (cond b (at ∷ from_on t (at + 1) c) (from_on t (at + 1) c))) [ true ↦ (less, rest) | false ↦ rest ]

pub rises : (t : ℕ → Bool) (at c : ℕ) → Rises (from_on t at c)
rises t at zero = tt
rises t at (suc c) =
    let rest = rises t (at + 1) c in
    elim (t at) as (λ b. Rises (cond b (at ∷ from_on t (at + 1) c) (from_on t (at + 1) c))) [ true ↦ (above t (at + 1) c at (omega arith), rest) | false ↦ rest ]

pub alike : (t u : ℕ → Bool) (at c : ℕ) → ((k : ℕ) → at ≤ k → k < at + c → t k ≡ u k) → from_on t at c ≡ from_on u at c
alike t u at zero same = refl
alike t u at (suc c) same =
    let rest = alike t u (at + 1) c (λ k low high. same k (omega (arith, low)) (omega (arith, high))) in
    ap (λ b. cond b (at ∷ from_on t (at + 1) c) (from_on t (at + 1) c)) (same at (omega arith) (omega arith)) ∙ ap (λ l. cond (u at) (at ∷ l) l) rest

-- one place more that does not pass
pub one_more : (t : ℕ → Bool) (at c : ℕ) → t (at + c) ≡ false → from_on t at (suc c) ≡ from_on t at c
one_more t at zero out = let e : at ≡ at + 0 = omega arith in ap (λ b. cond b (at ∷ []) []) (ap t e ∙ out)
one_more t at (suc c) out = let e : at + 1 + c ≡ at + suc c = omega arith in ap (λ l. cond (t at) (at ∷ l) l) (one_more t (at + 1) c (ap t e ∙ out))

with_first : (n : ℕ) (xs : List ℕ) → Each (λ k. n < k) xs → with_number n xs ≡ n ∷ xs
with_first n [] e = refl
with_first n (x ∷ xs) e = let more = e.0 in let no : nat_lt x n ≡ false = grind (arith, nat_tests) in ap (λ b. cond b (x ∷ with_number n xs) (n ∷ x ∷ xs)) no

with_later : (n at : ℕ) (xs : List ℕ) (b : Bool) → at < n → cond b (at ∷ with_number n xs) (with_number n xs) ≡ with_number n (cond b (at ∷ xs) xs)
with_later n at xs true less = let yes : nat_lt at n ≡ true = grind (arith, nat_tests) in sym (ap (λ b. cond b (at ∷ with_number n xs) (n ∷ at ∷ xs)) yes)
with_later n at xs false less = refl

without_later : (n at : ℕ) (xs : List ℕ) (b : Bool) → at < n → cond b (at ∷ without_number n xs) (without_number n xs) ≡ without_number n (cond b (at ∷ xs) xs)
without_later n at xs true less = let no : (at == n) ≡ false = grind (arith, nat_tests) in sym (ap (λ b. cond b xs (at ∷ without_number n xs)) no)
without_later n at xs false less = refl

added_here : (t u : ℕ → Bool) (at c : ℕ) → t at ≡ false → u at ≡ true → ((k : ℕ) → (k ≡ at → ⊥) → u k ≡ t k) → from_on u at (suc c) ≡ with_number at (from_on t at (suc c))
added_here t u at c out in_ same =
    let tail = alike u t (at + 1) c (λ k low high. same k (λ e. omega (arith, low, e))) in
    ap (λ b. cond b (at ∷ from_on u (at + 1) c) (from_on u (at + 1) c)) in_
    ∙ ap (λ l. at ∷ l) tail
    ∙ sym (with_first at (from_on t (at + 1) c) (above t (at + 1) c at (omega arith)))
    ∙ ap (with_number at) (sym (ap (λ b. cond b (at ∷ from_on t (at + 1) c) (from_on t (at + 1) c)) out))

-- a place passes that did not
pub added : (t u : ℕ → Bool) (n at c : ℕ) → at ≤ n → n < at + c → t n ≡ false → u n ≡ true → ((k : ℕ) → (k ≡ n → ⊥) → u k ≡ t k)
    → from_on u at c ≡ with_number n (from_on t at c)
added t u n at zero low high out in_ same = absurd (omega (arith, low, high))
added t u n at (suc c) low high out in_ same = elim (eqb_tells n at) [
  | inl here ↦
      let e = here.1 in
      subst (λ k. from_on u at (suc c) ≡ with_number k (from_on t at (suc c))) (sym e)
      (added_here t u at c (ap t (sym e) ∙ out) (ap u (sym e) ∙ in_) (λ k never. same k (λ is. never (is ∙ e))))
  | inr apart ↦
      let far = apart.1 in
      let less : at < n = omega (arith, low, far) in
      let rest = added t u n (at + 1) c (omega (arith, less)) (omega (arith, high)) out in_ same in
      ap (λ b. cond b (at ∷ from_on u (at + 1) c) (from_on u (at + 1) c)) (same at (λ e. omega (arith, less, e)))
      ∙ ap (λ l. cond (t at) (at ∷ l) l) rest
      ∙ with_later n at (from_on t (at + 1) c) (t at) less
]

taken_here : (t u : ℕ → Bool) (at c : ℕ) → t at ≡ true → u at ≡ false → ((k : ℕ) → (k ≡ at → ⊥) → u k ≡ t k) → from_on u at (suc c) ≡ without_number at (from_on t at (suc c))
taken_here t u at c in_ out same =
    let tail = alike u t (at + 1) c (λ k low high. same k (λ e. omega (arith, low, e))) in
    let self : (at == at) ≡ true = grind (arith, nat_tests) in
    ap (λ b. cond b (at ∷ from_on u (at + 1) c) (from_on u (at + 1) c)) out
    ∙ tail
    ∙ sym (ap (λ b. cond b (from_on t (at + 1) c) (at ∷ without_number at (from_on t (at + 1) c))) self)
    ∙ ap (without_number at) (sym (ap (λ b. cond b (at ∷ from_on t (at + 1) c) (from_on t (at + 1) c)) in_))

-- a place that passed does not any more
pub taken : (t u : ℕ → Bool) (n at c : ℕ) → at ≤ n → n < at + c → t n ≡ true → u n ≡ false → ((k : ℕ) → (k ≡ n → ⊥) → u k ≡ t k)
    → from_on u at c ≡ without_number n (from_on t at c)
taken t u n at zero low high in_ out same = absurd (omega (arith, low, high))
taken t u n at (suc c) low high in_ out same = elim (eqb_tells n at) [
  | inl here ↦
      let e = here.1 in
      subst (λ k. from_on u at (suc c) ≡ without_number k (from_on t at (suc c))) (sym e)
      (taken_here t u at c (ap t (sym e) ∙ in_) (ap u (sym e) ∙ out) (λ k never. same k (λ is. never (is ∙ e))))
  | inr apart ↦
      let far = apart.1 in
      let less : at < n = omega (arith, low, far) in
      let rest = taken t u n (at + 1) c (omega (arith, less)) (omega (arith, high)) in_ out same in
      ap (λ b. cond b (at ∷ from_on u (at + 1) c) (from_on u (at + 1) c)) (same at (λ e. omega (arith, less, e)))
      ∙ ap (λ l. cond (t at) (at ∷ l) l) rest
      ∙ without_later n at (from_on t (at + 1) c) (t at) less
]

-- the first one from a place on
lower : (t : ℕ → Bool) (at from : ℕ) (found : Option ℕ) → (from ≤ at → t at ≡ false) → IsFirstFrom t (at + 1) from found → IsFirstFrom t at from found
lower t at from None out is = λ other low on. elim (eqb_tells other at) [
  | inl here ↦ let e = here.1 in ap t e ∙ out (omega (arith, on, e))
  | inr apart ↦ let far = apart.1 in is other (omega (arith, low, far)) on
]
lower t at from (Some place) out is =
    let above = is.0 in (
      omega (arith, above),
      is.1,
      is.2,
      λ other low on less. elim (eqb_tells other at) [
        | inl here ↦ let e = here.1 in ap t e ∙ out (omega (arith, on, e))
        | inr apart ↦ let far = apart.1 in is.3 other (omega (arith, low, far)) on less
      ],
    )

-- the number that a search finds
abbrev pub found_in : List ℕ → ℕ → Option ℕ
found_in xs from = slice_get xs (leading (λ n. nat_lt n from) xs)

first_step : (t : ℕ → Bool) (at from : ℕ) (xs : List ℕ) (b below : Bool) → t at ≡ b → nat_lt at from ≡ below → IsFirstFrom t (at + 1) from (found_in xs from)
    → IsFirstFrom t at from (found_in (cond b (at ∷ xs) xs) from)
first_step t at from xs false below out e is = lower t at from (found_in xs from) (λ on. out) is
first_step t at from xs true true in_ e is =
    let less : at < from = grind (arith, nat_tests) in
    subst (λ d. IsFirstFrom t at from (slice_get (at ∷ xs) (cond d (suc (leading (λ n. nat_lt n from) xs)) 0))) (sym e)
    (lower t at from (found_in xs from) (λ on. absurd (omega (arith, on, less))) is)
first_step t at from xs true false in_ e is =
    let on : from ≤ at = grind (arith, nat_tests) in
    subst (λ d. IsFirstFrom t at from (slice_get (at ∷ xs) (cond d (suc (leading (λ n. nat_lt n from) xs)) 0))) (sym e)
    (omega arith, on, in_, λ other low high less. absurd (omega (arith, low, less)))

pub first_is : (t : ℕ → Bool) (at c from : ℕ) → ((k : ℕ) → at + c ≤ k → t k ≡ false) → IsFirstFrom t at from (found_in (from_on t at c) from)
first_is t at zero from past = λ other low on. past other (omega (arith, low))
first_is t at (suc c) from past = first_step t at from (from_on t (at + 1) c) (t at) (nat_lt at from) refl refl (first_is t (at + 1) c from (λ k low. past k (omega (arith, low))))
