-- Over an index that stands for a machine, a driver may be next exactly where it is the first that may start from its own place on.
use Rattle.std.proofs.Common.{◌≡◌, ℕ, zero, suc, ◌==◌, Bool, true, false, ◌&&◌, ◌||◌, cond, List, [], ◌∷◌, ◌++◌, Option, Some, None, drop, take, refl, sym, subst, ap, ◌∙◌, arith, eqb, ◌↔◌, filter, find, slice_get, option_and_then}
use Rattle.std.specs.Option.{option_eq}
use Rattle.std.proofs.lemmas.Bool.Decides.{nat_tests}
use Rattle.mod_catalog.specs.{declared.catalogue.Catalog.Catalog, Parts.has_number}
use Rattle.boot_model.specs.{DxeChoice.is_eligible_driver, DxeChoice.is_waiting, DxeMachine.DxeMachine, PeiChoice.rotated}
use Rattle.boot_model.proofs.ListFacts.{found_passes, has_first}
use Rattle.boot_laws.proofs.PartLists.{is_equal}
use Rattle.wait_index.specs.{declared.index.WaitIndex.WaitIndex, Dispatch.StandsForDxe}
use Rattle.wait_index.specs.Index.{IsIndex, is_eligible_in, order_in}
use Rattle.wait_index.proofs.Dispatch.{dxe_one}
use Rattle.dxe_dispatch.specs.Aim.{may_be_next}
use Rattle.dxe_dispatch.proofs.WaitingDrivers.{has_place}

-- a list has a number where the whole has it and it passes
filtered_has : (p : ℕ → Bool) (xs : List ℕ) (n : ℕ) → has_number (filter p xs) n ≡ (has_number xs n && p n)
filtered_has p [] n = refl
filtered_has p (x ∷ xs) n = by (p x) (x == n) refl refl (filtered_has p xs n)
  where
    by : (a b : Bool) → p x ≡ a → (x == n) ≡ b → has_number (filter p xs) n ≡ (has_number xs n && p n) → has_number (cond a (x ∷ filter p xs) (filter p xs)) n ≡ ((b || has_number xs n) && p n)
    by true true e f h = ap (λ t. t || has_number (filter p xs) n) f ∙ sym e ∙ ap p (is_equal x n f)
    by true false e f h = ap (λ t. t || has_number (filter p xs) n) f ∙ h
    by false true e f h = h ∙ fails (has_number xs n) (p n) (ap p (sym (is_equal x n f)) ∙ e) ∙ sym (ap p (sym (is_equal x n f)) ∙ e)
      where
        fails : (a b : Bool) → b ≡ false → (a && b) ≡ false
        fails true b g = g
        fails false b g = refl
    by false false e f h = h

has_of_place : (xs : List ℕ) (place n : ℕ) → slice_get xs place ≡ Some n → has_number xs n ≡ true
has_of_place [] place n h = cc
has_of_place (x ∷ xs) zero n h = subst (λ k. has_number (x ∷ xs) k ≡ true) (one x n h) (has_first x xs)
  where
    one : (a b : ℕ) → Some a ≡ Some b → a ≡ b
    one a b e = cc
has_of_place (x ∷ xs) (suc place) n h = later (x == n) (has_number xs n) (has_of_place xs place n h)
  where
    later : (a b : Bool) → b ≡ true → (a || b) ≡ true
    later true b e = refl
    later false b e = e

-- a driver with a place may be next where it is eligible in the index
pub next_with_place : (catalog : Catalog) (m : DxeMachine) (index : WaitIndex) (place number : ℕ) → IsIndex catalog index → StandsForDxe catalog m index → slice_get (order_in index) place ≡ Some number
    → may_be_next catalog m number ≡ is_eligible_in catalog index number
next_with_place catalog m index place number is stands at =
    let known : has_number (order_in index) number ≡ true = has_of_place (order_in index) place number at in
    ap (λ b. b && is_eligible_driver catalog m number) (filtered_has (is_waiting m) _ number
    ∙ ap (λ order. has_number order number && is_waiting m number) (sym stands.order) ∙ ap (λ b. b && is_waiting m number) known)
    ∙ sym (dxe_one catalog m index is stands number known)

-- and one without may not
pub none_without_place : (catalog : Catalog) (m : DxeMachine) (index : WaitIndex) (number : ℕ) → StandsForDxe catalog m index → ((place : ℕ) → slice_get (order_in index) place ≡ Some number → ⊥) → may_be_next catalog m number ≡ false
none_without_place catalog m index number stands none = by (has_number (order_in index) number) refl
  where
    by : (b : Bool) → has_number (order_in index) number ≡ b → may_be_next catalog m number ≡ false
    by true e = let there = has_place (order_in index) number e in absurd (none there.0 there.1)
    by false e = ap (λ b. b && is_eligible_driver catalog m number) (filtered_has (is_waiting m) _ number
        ∙ ap (λ order. has_number order number && is_waiting m number) (sym stands.order) ∙ ap (λ b. b && is_waiting m number) e)

-- the list from a place on begins with what stands there
rotated_begins : (order : List ℕ) (place number : ℕ) → slice_get order place ≡ Some number → (rest : List ℕ) × (drop place order ≡ number ∷ rest)
rotated_begins [] place number h = cc
rotated_begins (x ∷ order) zero number h = (order, ap (λ n. n ∷ order) (one x number h))
  where
    one : (a b : ℕ) → Some a ≡ Some b → a ≡ b
    one a b e = cc
rotated_begins (x ∷ order) (suc place) number h = rotated_begins order place number h

-- the first from a place on is the one that stands there exactly where it passes
pub first_from_place : (p : ℕ → Bool) (order : List ℕ) (place number : ℕ) (result : Option ℕ) → slice_get order place ≡ Some number → ((other : ℕ) → slice_get order other ≡ Some number → other ≡ place)
    → option_and_then (slice_get order) result ≡ find p (rotated place order) → (result ≡ Some place) ↔ (p number ≡ true)
first_from_place p order place number result at once found = (passes, is_first)
  where
    begins : (rest : List ℕ) × (drop place order ≡ number ∷ rest)
    begins = rotated_begins order place number at

    passes : result ≡ Some place → p number ≡ true
    passes is = found_passes p (rotated place order) number (sym found ∙ ap (option_and_then (slice_get order)) is ∙ at)

    here : p number ≡ true → option_and_then (slice_get order) result ≡ Some number
    here e = found ∙ ap (λ xs. find p (xs ++ take place order)) begins.1 ∙ ap (λ b. cond b (Some number) (find p (begins.0 ++ take place order))) e

    at_place : (r : Option ℕ) → option_and_then (slice_get order) r ≡ Some number → r ≡ Some place
    at_place None h = cc
    at_place (Some other) h = ap Some (once other h)

    is_first : p number ≡ true → result ≡ Some place
    is_first e = at_place result (here e)

pub one_place : (a b : ℕ) → Some a ≡ Some b → a ≡ b
one_place a b e = cc

-- a place that is found, compared with another
pub is_same_place : (found : Option ℕ) (place : ℕ) (b : Bool) → (found ≡ Some place) ↔ (b ≡ true) → option_eq eqb found (Some place) ≡ b
is_same_place None place true is = let never : None ≡ Some place = is.1 refl in cc
is_same_place None place false is = refl
is_same_place (Some other) place b is = by (other == place) b refl is
  where
    by : (same b : Bool) → (other == place) ≡ same → (Some other ≡ Some place) ↔ (b ≡ true) → (other == place) ≡ b
    by true b e is = e ∙ sym (is.0 (ap Some (is_equal other place e)))
    by false true e is =
        let same : other ≡ place = one_place other place (is.1 refl) in
        let yes : (place == place) ≡ true = grind (arith, nat_tests) in
        absurd (never (sym yes ∙ ap (λ n. n == place) (sym same) ∙ e))
      where
        never : true ≡ false → ⊥
        never h = cc
    by false false e is = e
