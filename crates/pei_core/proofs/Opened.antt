-- The core at the opening.
use Rattle.std.proofs.Common.{◌≡◌, ℕ, zero, suc, List, [], ◌∷◌, ◌++◌, refl, sym, ap, ◌∙◌, subst, replicate, Some, filter, not}
use Rattle.mod_catalog.specs.{declared.catalogue.Catalog.Catalog, Parts.has_number, Parts.family}
use Rattle.store_model.specs.StoreState.{Board}
use Rattle.boot_model.specs.{declared.peim_state.PeimState.PeimState, declared.peim_state.PeimState.TheVariants.NotDispatched}
use Rattle.boot_model.specs.{PeiRun.pei_opening, Reporting.newcomers}
use Rattle.boot_model.specs.PeimState.{ArePeimStates, IsPeimState, state_at}

all_new : (xs : List ℕ) → filter (λ other. not (has_number [] other)) xs ≡ xs
all_new [] = refl
all_new (x ∷ xs) = ap (λ ys. x ∷ ys) (all_new xs)

pub first_family : (catalog : Catalog) (start reported : List ℕ) → start ≡ [] → reported ≡ start ++ newcomers catalog start (Some 0) → family catalog 0 ≡ reported
first_family catalog start reported none is = let here : reported ≡ newcomers catalog [] (Some 0) = is ∙ ap (λ xs. xs ++ newcomers catalog xs (Some 0)) none in sym (all_new (family catalog 0)) ∙ sym here

all_wait : (n k : ℕ) → state_at (replicate n NotDispatched) k ≡ NotDispatched
all_wait zero zero = refl
all_wait zero (suc k) = refl
all_wait (suc n) zero = refl
all_wait (suc n) (suc k) = all_wait n k

none_has : (board : Board) (catalog : Catalog) (k : ℕ) → IsPeimState (pei_opening board catalog) k NotDispatched
none_has board catalog k = record { started = refl; registered = refl; again = refl }

pub first_states : (board : Board) (catalog : Catalog) (states : List PeimState) (n : ℕ) → states ≡ replicate n NotDispatched → ArePeimStates (pei_opening board catalog) states
first_states board catalog states n e k = subst (IsPeimState (pei_opening board catalog) k) (sym (ap (λ xs. state_at xs k) e ∙ all_wait n k)) (none_has board catalog k)
