-- The first part that may start a second time.
use Rattle.std.proofs.Common.{◌≡◌, ◌<◌, ◌+◌, ℕ, zero, suc, Bool, true, false, cond, ◌&&◌, not, List, [], ◌∷◌, Some, None, find, get_or, take, length, arith, refl, sym, ap, ◌∙◌}
use Rattle.std.specs.Option.{option_or}
use Rattle.std.proofs.{lemmas.List.take_more, lemmas.List.Folds.find-append}
use Rattle.pi_base.specs.declared.phase.Phase.TheVariants.{Pei}
use Rattle.mod_catalog.specs.{declared.catalogue.Catalog.Catalog, Parts.has_number, Parts.part_at}
use Rattle.boot_model.specs.{Eligible.is_eligible, Eligible.may_start, PeiChoice.pei_order, PeiMachine.PeiMachine}
use Rattle.boot_model.specs.PeimState.{ArePeimStates, IsPeimState, state_at}
use Rattle.boot_model.specs.declared.peim_state.PeimState.{PeimState}
use Rattle.boot_model.specs.declared.peim_state.PeimState.TheVariants.{NotDispatched, Dispatched, RegisteredForShadow, Done}
use Rattle.pei_dispatch.specs.{InTurn.next_again, View.awaits_again, View.awaits_at}

-- the first one that passes a test is found where none before it does
pub found_here : (test : ℕ → Bool) (xs : List ℕ) (i : ℕ) → i < length xs → find test (take i xs) ≡ None → test (get_or xs i 0) ≡ true → find test xs ≡ Some (get_or xs i 0)
found_here test [] i less none passes = absurd (omega (arith, less))
found_here test (x ∷ xs) zero less none passes = ap (λ b. cond b (Some x) (find test xs)) passes
found_here test (x ∷ xs) (suc i) less none passes = by (test x) none (found_here test xs i (omega (arith, less)))
  where
    by : (b : Bool) → cond b (Some x) (find test (take i xs)) ≡ None → (find test (take i xs) ≡ None → test (get_or xs i 0) ≡ true → find test xs ≡ Some (get_or xs i 0))
        → cond b (Some x) (find test xs) ≡ Some (get_or xs i 0)
    by true here later = absurd (cc)
    by false here later = later here passes

-- and one more does not pass it
pub none_more : (test : ℕ → Bool) (xs : List ℕ) (i : ℕ) → i < length xs → find test (take i xs) ≡ None → test (get_or xs i 0) ≡ false → find test (take (i + 1) xs) ≡ None
none_more test xs i less none fails =
    ap (find test) (take_more xs i 0 less) ∙ find-append test (take i xs) (get_or xs i 0 ∷ []) ∙ ap (λ o. option_or o (find test (get_or xs i 0 ∷ []))) none ∙ ap (λ b. cond b (Some (get_or xs i 0)) None) fails

-- tests that say the same find the same
find_same : (test other : ℕ → Bool) (xs : List ℕ) → ((n : ℕ) → test n ≡ other n) → find test xs ≡ find other xs
find_same test other [] same = refl
find_same test other (x ∷ xs) same = ap (λ b. cond b (Some x) (find test xs)) (same x) ∙ ap (λ o. cond (other x) (Some x) o) (find_same test other xs same)

find_nothing : (test : ℕ → Bool) (xs : List ℕ) → ((n : ℕ) → test n ≡ false) → find test xs ≡ None
find_nothing test [] none = refl
find_nothing test (x ∷ xs) none = ap (λ b. cond b (Some x) (find test xs)) (none x) ∙ find_nothing test xs none

-- after the move a part may start again by its state
may_return : (s r a v p x y z : Bool) → s ≡ x → r ≡ y → a ≡ z → v ≡ true → (s && cond s (r && not a && v) p) ≡ (x && cond x (y && not z && true) p)
may_return s r a v p x y z started registered again moved =
    ap (λ b. b && cond b (r && not a && v) p) started ∙ ap (λ b. x && cond x (b && not a && v) p) registered
    ∙ ap (λ b. x && cond x (y && not b && v) p) again ∙ ap (λ b. x && cond x (y && not z && b) p) moved

returns_by : (catalog : Catalog) (m : PeiMachine) (number : ℕ) (state : PeimState) → IsPeimState m number state → m.store.moved ≡ true
    → (has_number m.started number && is_eligible catalog m number) ≡ awaits_again state
returns_by catalog m number state is moved = by state is
  where
    p : Bool
    p = may_start m.store (part_at Pei catalog number)

    shape : (x y z : Bool) → has_number m.started number ≡ x → has_number m.shadows number ≡ y → has_number m.again number ≡ z
        → (has_number m.started number && is_eligible catalog m number) ≡ (x && cond x (y && not z && true) p)
    shape x y z a b c = may_return (has_number m.started number) (has_number m.shadows number) (has_number m.again number) m.store.moved p x y z a b c moved

    by : (state : PeimState) → IsPeimState m number state → (has_number m.started number && is_eligible catalog m number) ≡ awaits_again state
    by NotDispatched is = shape false false false is.started is.registered is.again
    by Dispatched is = shape true false false is.started is.registered is.again
    by RegisteredForShadow is = shape true true false is.started is.registered is.again
    by Done is = shape true true true is.started is.registered is.again

pub again_is : (catalog : Catalog) (m : PeiMachine) (states : List PeimState) (order : List ℕ) → order ≡ pei_order catalog m.reported → ArePeimStates m states → m.store.moved ≡ true
    → find (awaits_at states) order ≡ next_again catalog m
again_is catalog m states order is are moved =
    ap (find (awaits_at states)) is
    ∙ sym (find_same (λ n. has_number m.started n && is_eligible catalog m n) (awaits_at states) (pei_order catalog m.reported) (λ n. returns_by catalog m n (state_at states n) (are n) moved))

-- before the move none may
none_returns : (s r a v p : Bool) → v ≡ false → (s && cond s (r && not a && v) p) ≡ false
none_returns false r a v p moved = refl
none_returns true false a v p moved = refl
none_returns true true true v p moved = refl
none_returns true true false v p moved = moved

pub none_again : (catalog : Catalog) (m : PeiMachine) → m.store.moved ≡ false → None ≡ next_again catalog m
none_again catalog m moved =
    sym (find_nothing (λ n. has_number m.started n && is_eligible catalog m n) (pei_order catalog m.reported)
    (λ n. none_returns (has_number m.started n) (has_number m.shadows n) (has_number m.again n) m.store.moved (may_start m.store (part_at Pei catalog n)) moved))
