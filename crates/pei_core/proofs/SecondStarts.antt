-- Which parts an event lets start again, by what it leaves of the machine's lists.
use Rattle.std.proofs.Common.{◌≡◌, ℕ, Bool, true, false, ◌||◌, ◌&&◌, ◌==◌, not, ◌∷◌, [], ◌++◌, refl, sym, ap, ◌∙◌}
use Rattle.mod_catalog.specs.Parts.{has_number}
use Rattle.boot_model.specs.{Eligible.may_start_again, PeiMachine.PeiMachine, declared.peim_state.PeimState.TheVariants.Dispatched}
use Rattle.pei_core.specs.declared.event.Again.TheVariants.{Nobody, All}
use Rattle.pei_core.specs.SecondStarts.{IsAgain, awaits_second, lets_again, registered_again}
use Rattle.pei_core.proofs.PeimStates.{has_behind, same}

-- none, where the lists stay
or_nothing : (b : Bool) → b ≡ (b || false)
or_nothing true = refl
or_nothing false = refl

pub nobody : (m later : PeiMachine) → later.shadows ≡ m.shadows → later.again ≡ m.again → later.store.moved ≡ m.store.moved → IsAgain m later Nobody
nobody m later shadows again moved n =
    ap (λ xs. has_number xs n && not (has_number later.again n) && later.store.moved) shadows
    ∙ ap (λ xs. has_number m.shadows n && not (has_number xs n) && later.store.moved) again
    ∙ ap (λ b. has_number m.shadows n && not (has_number m.again n) && b) moved
    ∙ or_nothing (may_start_again m n)

-- one that registers, once memory has moved
one_more : (s e a moved : Bool) → (e ≡ true → a ≡ false) → ((s || e) && not a && moved) ≡ ((s && not a && moved) || (e && moved))
one_more true true true moved h = let f : true ≡ false = h refl in absurd (cc)
one_more true true false true h = refl
one_more true true false false h = refl
one_more true false true moved h = refl
one_more true false false true h = refl
one_more true false false false h = refl
one_more false true true moved h = let f : true ≡ false = h refl in absurd (cc)
one_more false true false moved h = refl
one_more false false a moved h = refl

with_true : (b : Bool) → b ≡ (b && true)
with_true true = refl
with_true false = refl

with_false : (b : Bool) → false ≡ (b && false)
with_false true = refl
with_false false = refl

lets_one : (later : PeiMachine) (moved : Bool) (number n : ℕ) → lets_again later (registered_again Dispatched moved number) n ≡ ((number == n) && moved)
lets_one later true number n = with_true (number == n)
lets_one later false number n = with_false (number == n)

pub one_registers : (m later : PeiMachine) (number : ℕ) → has_number m.again number ≡ false → later.shadows ≡ m.shadows ++ number ∷ [] → later.again ≡ m.again → later.store.moved ≡ m.store.moved
    → IsAgain m later (registered_again Dispatched m.store.moved number)
one_registers m later number none shadows again moved n =
    ap (λ xs. has_number xs n && not (has_number later.again n) && later.store.moved) shadows
    ∙ ap (λ b. b && not (has_number later.again n) && later.store.moved) (has_behind m.shadows number n)
    ∙ ap (λ xs. (has_number m.shadows n || (number == n)) && not (has_number xs n) && later.store.moved) again
    ∙ ap (λ b. (has_number m.shadows n || (number == n)) && not (has_number m.again n) && b) moved
    ∙ one_more (has_number m.shadows n) (number == n) (has_number m.again n) m.store.moved (λ e. ap (has_number m.again) (sym (same number n e)) ∙ none)
    ∙ ap (λ b. may_start_again m n || b) (sym (lets_one later m.store.moved number n))

-- all, where memory moves
and_last : (s a : Bool) → (s && not a && true) ≡ (s && not a)
and_last true true = refl
and_last true false = refl
and_last false a = refl

none_before : (s a t b : Bool) → (s && not a && true) ≡ ((t && not b && false) || (s && not a))
none_before s a true true = and_last s a
none_before s a true false = and_last s a
none_before s a false b = and_last s a

pub all_again : (m later : PeiMachine) → m.store.moved ≡ false → later.store.moved ≡ true → IsAgain m later All
all_again m later before behind n =
    ap (λ b. has_number later.shadows n && not (has_number later.again n) && b) behind
    ∙ none_before (has_number later.shadows n) (has_number later.again n) (has_number m.shadows n) (has_number m.again n)
    ∙ ap (λ b. (has_number m.shadows n && not (has_number m.again n) && b) || awaits_second later n) (sym before)
