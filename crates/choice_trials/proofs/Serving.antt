-- The services of a machine are those of one over any store in which drivers wait for their request: the one that has started the drivers with a rank, and no others.
use Rattle.std.proofs.Common.{◌≡◌, ℕ, zero, suc, ◌<◌, ◌≤◌, Bool, true, false, cond, ◌&&◌, ◌||◌, not, ◌==◌, List, [], ◌∷◌, length, find, filter, Option, Some, None, is_none, inl, inr, refl, sym, ap, ◌∙◌, arith, is_some, ◌⊎◌, Ok, option_and_then}
use Rattle.std.proofs.{lemmas.Option.slice_get_past, lemmas.Bool.cases_lt, lemmas.Bool.Decides.nat_tests}
use Rattle.pi_base.specs.{declared.phase.Phase.TheVariants.Dxe, Guids.same_guid}
use Rattle.mod_catalog.specs.{declared.catalogue.Catalog.Catalog, declared.catalogue.Module.Module, declared.catalogue.Part.Part}
use Rattle.mod_catalog.specs.Parts.{has_number, part_of, rank_at, module_name}
use Rattle.store_model.specs.{StoreState.StoreState, Service.Present, StoreCall.Anything}
use Rattle.boot_model.specs.DxeMachine.{DxeMachine, DriverFrame}
use Rattle.boot_model.specs.DxeChoice.{discovered_order, is_unrequested, is_waiting}
use Rattle.boot_laws.specs.UnrequestedDrivers.{WaitForRequest}
use Rattle.act_code.specs.declared.action.Action.{Action}
use Rattle.dxe_core.specs.{declared.reply.Reply.Reply, Reply.ServesOwn, Services.Services, Services.AreServicesFor}
use Rattle.choice_trials.specs.Served.{IsServed}

-- the numbers below a bound that pass a test
abbrev those : (ℕ → Bool) → ℕ → List ℕ
those p zero = []
those p (suc n) = cond (p n) (n ∷ those p n) (those p n)

past_one : (n k : ℕ) (b : Bool) (rest : List ℕ) → suc n ≤ k → has_number rest k ≡ false → has_number (cond b (n ∷ rest) rest) k ≡ false
past_one n k true rest le none = let other : (n == k) ≡ false = grind (arith, nat_tests) in ap (λ t. t || has_number rest k) other ∙ none
past_one n k false rest le none = none

none_past : (p : ℕ → Bool) (n k : ℕ) → n ≤ k → has_number (those p n) k ≡ false
none_past p zero k le = refl
none_past p (suc n) k le = past_one n k (p n) (those p n) le (none_past p n k (omega (arith, le)))

one_of : (p : ℕ → Bool) (n k : ℕ) (rest : List ℕ) → k < suc n → (k < n → has_number rest k ≡ p k) → (n ≤ k → has_number rest k ≡ false) → (same b : Bool) → (n == k) ≡ same → p n ≡ b
    → has_number (cond b (n ∷ rest) rest) k ≡ p k
one_of p n k rest below here past true true e is = let at : n ≡ k = grind (arith, nat_tests) in ap (λ t. t || has_number rest k) e ∙ sym (ap p (sym at) ∙ is)
one_of p n k rest below here past true false e is = let at : n ≡ k = grind (arith, nat_tests) in past (omega (arith, at)) ∙ sym (ap p (sym at) ∙ is)
one_of p n k rest below here past false true e is = ap (λ t. t || has_number rest k) e ∙ here (grind (arith, nat_tests))
one_of p n k rest below here past false false e is = here (grind (arith, nat_tests))

are_those : (p : ℕ → Bool) (n k : ℕ) → k < n → has_number (those p n) k ≡ p k
are_those p zero k below = absurd (omega (arith, below))
are_those p (suc n) k below = one_of p n k (those p n) below (are_those p n k) (none_past p n k) (n == k) (p n) refl refl

find_step : (p : ℕ → Bool) (x : ℕ) (xs : List ℕ) (b : Bool) (found : Option ℕ) → find p xs ≡ found → find p (cond b (x ∷ xs) xs) ≡ cond (b && p x) (Some x) found
find_step p x xs true found e = ap (λ f. cond (p x) (Some x) f) e
find_step p x xs false found e = e

find_filtered : (p q r : ℕ → Bool) (xs : List ℕ) → ((x : ℕ) → q x ≡ r x) → find p (filter q xs) ≡ find (λ x. r x && p x) xs
find_filtered p q r [] e = refl
find_filtered p q r (x ∷ xs) e =
    let found : Option ℕ = find (λ x. r x && p x) xs in
    find_step p x (filter q xs) (q x) found (find_filtered p q r xs e) ∙ ap (λ b. cond (b && p x) (Some x) found) (e x)

not_some : (o : Option ℕ) → not (is_some o) ≡ is_none o
not_some None = refl
not_some (Some n) = refl

abbrev pub is_ranked : Catalog → ℕ → Bool
is_ranked catalog number = is_some (rank_at Dxe catalog number)

-- the machine
abbrev pub begun : Catalog → StoreState → DxeMachine → DxeMachine
begun catalog s m = record m { store = s; scheduled = []; started = those (is_ranked catalog) (length catalog.modules) }

-- behind the last module there is no rank
no_rank : (catalog : Catalog) (number : ℕ) → length catalog.modules ≤ number → rank_at Dxe catalog number ≡ None
no_rank catalog number past =
    ap (λ (found : Option Module). option_and_then (λ (part : Part). part.rank) (option_and_then (part_of Dxe) found)) (slice_get_past catalog.modules number past)

waits : (catalog : Catalog) (s : StoreState) (m : DxeMachine) (number : ℕ) → is_waiting (begun catalog s m) number ≡ is_none (rank_at Dxe catalog number)
waits catalog s m number = by (cases_lt number (length catalog.modules))
  where
    count : ℕ
    count = length catalog.modules

    by : (number < count) ⊎ (count ≤ number) → is_waiting (begun catalog s m) number ≡ is_none (rank_at Dxe catalog number)
    by (inl below) = ap not (are_those (is_ranked catalog) count number below) ∙ not_some (rank_at Dxe catalog number)
    by (inr past) = ap not (none_past (is_ranked catalog) count number past) ∙ sym (ap is_none (no_rank catalog number past))

wait_for_request : (catalog : Catalog) (s : StoreState) (m : DxeMachine) → WaitForRequest catalog (begun catalog s m)
wait_for_request catalog s m = record {
  wait = λ number discovered unrequested. waits catalog s m number;
  named = λ name.
      find_filtered (λ number. is_unrequested catalog m number && same_guid (module_name catalog number) name) (is_waiting (begun catalog s m)) (λ number. is_none (rank_at Dxe catalog number)) (discovered_order catalog m)
      (waits catalog s m);
}

-- one call later
pub served : {M : Type 0} (stands : M → StoreState → Type 0) (store : M) (catalog : Catalog) (old : Services) (frame : DriverFrame) (action : Action) (new : Services) (reply : Reply)
    → Present (stands store) Anything → IsServed catalog old → ServesOwn stands store catalog old frame action new (Ok reply) → AreServicesFor catalog new → IsServed catalog new
served stands store catalog old frame action new reply state is acts flags =
    let s = state.0 in
    let m = is.machine.0 in
    let has = is.machine.1 in
    let does = acts (begun catalog s m) state.1 (record { handles = has.handles; notes = has.notes; order = has.order; requested = has.requested }) (wait_for_request catalog s m) in
    record { flags = flags; machine = (does.later, does.has) }
