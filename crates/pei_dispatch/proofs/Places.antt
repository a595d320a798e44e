-- Where a part stands in the order.
use Rattle.std.proofs.Common.{◌≡◌, ℕ, zero, suc, ◌+◌, ◌<◌, length, Bool, true, false, ◌||◌, cond, List, [], ◌∷◌, Some, arith, refl, ap, sym, ◌∙◌, inl, inr, ◌==◌, slice_get}
use Rattle.std.proofs.lemmas.Bool.Decides.{eqb_tells}
use Rattle.boot_model.specs.PeiChoice.{cursor_behind}
use Rattle.mod_catalog.specs.Parts.{has_number}
use Rattle.pei_dispatch.specs.{InTurn.walked, LastStart.newest}

pub found_place : (xs : List ℕ) (n : ℕ) → has_number xs n ≡ true → (place : ℕ) × (slice_get xs place ≡ Some n)
found_place [] n h = absurd (cc)
found_place (x ∷ xs) n h = elim (eqb_tells x n) [
  | inl same ↦ (0, ap (λ k. Some k) same.1)
  | inr other ↦
      let rest : has_number xs n ≡ true = ap (λ b. b || has_number xs n) (sym other.0) ∙ h in
      let later = found_place xs n rest in
      (suc later.0, later.1)
]

pub place_within : (xs : List ℕ) (n place : ℕ) → slice_get xs place ≡ Some n → place < length xs
place_within [] n place h = absurd (cc)
place_within (x ∷ xs) n zero h = omega arith
place_within (x ∷ xs) n (suc place) h = let rest = place_within xs n place h in omega (arith, rest)

pub has_placed : (xs : List ℕ) (n place : ℕ) → slice_get xs place ≡ Some n → has_number xs n ≡ true
has_placed [] n place h = absurd (cc)
has_placed (x ∷ xs) n zero h = elim (eqb_tells x n) [
  | inl same ↦ ap (λ b. b || has_number xs n) same.0
  | inr other ↦ let is : x ≡ n = cc in absurd (other.1 is)
]
has_placed (x ∷ xs) n (suc place) h = or_later (x == n) (has_number xs n) (has_placed xs n place h)
  where
    or_later : (a b : Bool) → b ≡ true → (a || b) ≡ true
    or_later true b e = refl
    or_later false b e = e

-- the place behind a module that is not in the order is that behind the last part
pub behind_none : (xs : List ℕ) (n : ℕ) → ((place : ℕ) → slice_get xs place ≡ Some n → ⊥) → cursor_behind xs n ≡ length xs
behind_none [] n none = refl
behind_none (x ∷ xs) n none = elim (eqb_tells x n) [
  | inl same ↦ absurd (none 0 (ap (λ k. Some k) same.1))
  | inr other ↦
      let rest = behind_none xs n (λ place e. none (suc place) e) in
      ap (λ b. cond b 1 (1 + cursor_behind xs n)) other.0 ∙ omega (arith, rest)
]

-- the place from which EDK2's core looks on, by the part that started for the first time last
pub walked_is : (order started : List ℕ) (number : ℕ) → newest started ≡ Some number → walked order started ≡ cursor_behind order number
walked_is order [] number e = absurd (cc)
walked_is order (last ∷ earlier) number e = let same : last ≡ number = cc in ap (cursor_behind order) same

-- the cursor stands behind the one place of a part
pub behind_place : (xs : List ℕ) (n place : ℕ) → slice_get xs place ≡ Some n → ((other : ℕ) → slice_get xs other ≡ Some n → other ≡ place) → cursor_behind xs n ≡ place + 1
behind_place [] n place h one = absurd (cc)
behind_place (x ∷ xs) n zero h one = elim (eqb_tells x n) [
  | inl same ↦ ap (λ b. cond b 1 (1 + cursor_behind xs n)) same.0
  | inr other ↦ let is : x ≡ n = cc in absurd (other.1 is)
]
behind_place (x ∷ xs) n (suc place) h one = elim (eqb_tells x n) [
  | inl same ↦ let first : 0 ≡ suc place = one 0 (ap (λ k. Some k) same.1) in absurd (omega (arith, first))
  | inr other ↦
      let rest = behind_place xs n place h (λ p e. let up : suc p ≡ suc place = one (suc p) e in omega (arith, up)) in
      ap (λ b. cond b 1 (1 + cursor_behind xs n)) other.0 ∙ omega (arith, rest)
]
