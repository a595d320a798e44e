-- A step of DXE keeps the store, and adds volumes, requests and drivers behind those that there were.
use Rattle.std.proofs.Common.{◌≡◌, ℕ, ◌+◌, ◌<◌, Bool, true, false, cond, List, [], ◌∷◌, ◌++◌, length, Option, Some, None, refl, sym, ap, ◌∙◌, inl, inr, map, nat_le, arith, append_assoc, find, flat_map}
use Rattle.pi_base.specs.{declared.guid.Guid.Guid, declared.phase.Phase.TheVariants.Dxe, Guids.same_guid, Lists.Each}
use Rattle.mod_catalog.specs.{declared.catalogue.Catalog.Catalog, declared.catalogue.Part.Part}
use Rattle.mod_catalog.specs.Parts.{part_of, part_at, parts_in, module_name}
use Rattle.boot_model.specs.{declared.driver.Scheduled.Scheduled, Reporting.newcomers, DxeMachine.DxeMachine, DxeMachine.DriverFrame}
use Rattle.boot_model.specs.declared.phase_end.DxeEnd.TheVariants as DxeEnds
use Rattle.boot_model.specs.DxeChoice.{drivers_of, driver_named, discovered_order}
use Rattle.boot_model.specs.DxeAction.{DxeEffect, Wrote, Called, Logged, Skipped, Returned, Own, dxe_effect}
use Rattle.boot_model.specs.DxeStep.{DxeCase, DxeFires, DxeActs, DxeStarts, DxeStops, dxe_case_of, in_dxe_case, protocol_begun, after_dxe_effect, with_action, dxe_action_at, driver_started}
use Rattle.boot_model.specs.{DxeRun.dxe_run, DxeRun.dxe_opening, DriverLicence.numbers_of}
use Rattle.boot_laws.specs.DriverSteps.{BeginsWith, DriverStepsGrow, AreFewDrivers, DriversAreFew}
use Rattle.boot_model.proofs.ListFacts.{each_more, each_append, within}
use Rattle.boot_model.proofs.Distinct.{all_differ, distinct_append, few_below}
use Rattle.boot_laws.proofs.PartLists.{IsKnown, distinct_of, known_of, drivers_are}
use Rattle.boot_laws.proofs.{Queue.IsQueued, DxeOnce.run_queued, DxeOnce.opens_queued}
use Rattle.boot_laws.proofs.DriverActions.{Follows, EffectFollows, effect_follows}
use Rattle.boot_laws.proofs.DriverCalls.{EffectKeeps, effect_keeps, to_end}

-- the store, the volumes and the requests
abbrev Grows : DxeMachine → DxeMachine → Type 0
Grows old new = (new.store ≡ old.store) × BeginsWith old.discovered new.discovered × BeginsWith old.requested new.requested

stays : (m : DxeMachine) → Grows m m
stays m = (refl, ([], to_end m.discovered), ([], to_end m.requested))

followed : (catalog : Catalog) (old new : DxeMachine) → Follows catalog old new → BeginsWith old.discovered new.discovered
followed catalog old new (inl h) = ([], h.discovered ∙ to_end old.discovered)
followed catalog old new (inr h) = (newcomers catalog old.discovered (Some h.0), ap (λ m. m.discovered) h.1)

effect_grows : (catalog : Catalog) (m : DxeMachine) (frame : DriverFrame) (below : List DriverFrame) (e : DxeEffect) → EffectFollows catalog m e → EffectKeeps m frame e → Grows m (after_dxe_effect m frame below e)
effect_grows catalog m frame below (Wrote registers status) f k = stays m
effect_grows catalog m frame below (Called name reply) f k = (k.store, followed catalog m reply.machine f, k.requested)
effect_grows catalog m frame below (Logged text) f k = stays m
effect_grows catalog m frame below (Skipped n) f k = stays m
effect_grows catalog m frame below (Returned status) f k = stays m
effect_grows catalog m frame below (Own own) f k = absurd own

either_grows : (m : DxeMachine) (b : Bool) (one other : DxeMachine) → Grows m one → Grows m other → Grows m (cond b one other)
either_grows m true one other h k = h
either_grows m false one other h k = k

start_grows : (catalog : Catalog) (m : DxeMachine) (next : Scheduled) (queue : List Scheduled) (part : Option Part) → Grows m (driver_started catalog m next queue part)
start_grows catalog m next queue None = stays m
start_grows catalog m next queue (Some part) = stays m

case_grows : (catalog : Catalog) (fuel : ℕ) (m : DxeMachine) (case : DxeCase) → Grows m (in_dxe_case catalog fuel m case)
case_grows catalog fuel m (DxeFires note sweep frame below) =
    either_grows m (nat_le 64 (length m.frames)) (record m { ended = Some DxeEnds.Deep }) (protocol_begun catalog m note sweep frame below) (stays m) (stays m)
case_grows catalog fuel m (DxeActs frame below) =
    let does : DxeEffect = dxe_effect catalog (with_action m) frame (dxe_action_at catalog frame) in
    let acted = effect_grows catalog (with_action m) frame below does (effect_follows catalog (with_action m) frame (dxe_action_at catalog frame)) (effect_keeps catalog (with_action m) frame (dxe_action_at catalog frame)) in
    either_grows m (nat_le fuel m.actions) (record m { ended = Some DxeEnds.Spent }) (after_dxe_effect (with_action m) frame below does) (stays m) acted
case_grows catalog fuel m (DxeStarts next queue) = start_grows catalog m next queue (part_at Dxe catalog next.module_number)
case_grows catalog fuel m DxeStops = stays m

-- what is found stays found where more comes behind
find_step : (b : Bool) (x y : ℕ) (found more : Option ℕ) → (found ≡ Some y → more ≡ Some y) → cond b (Some x) found ≡ Some y → cond b (Some x) more ≡ Some y
find_step true x y found more on h = h
find_step false x y found more on h = on h

find_more : (p : ℕ → Bool) (xs more : List ℕ) (y : ℕ) → find p xs ≡ Some y → find p (xs ++ more) ≡ Some y
find_more p [] more y h = cc
find_more p (x ∷ xs) more y h = find_step (p x) x y (find p xs) (find p (xs ++ more)) (find_more p xs more y) h

flat_append : (f : ℕ → List ℕ) (xs more : List ℕ) → flat_map f (xs ++ more) ≡ flat_map f xs ++ flat_map f more
flat_append f [] more = refl
flat_append f (x ∷ xs) more = ap (λ l. f x ++ l) (flat_append f xs more) ∙ sym (append_assoc (f x) (flat_map f xs) (flat_map f more))

named_more : (catalog : Catalog) (old new : DxeMachine) → BeginsWith old.discovered new.discovered → (name : Guid) (number : ℕ) → driver_named catalog old name ≡ Some number → driver_named catalog new name ≡ Some number
named_more catalog old new b name number h =
    let test : ℕ → Bool = λ n. same_guid (module_name catalog n) name in
    ap (λ volumes. find test (drivers_of catalog volumes)) b.1 ∙ ap (find test) (flat_append (parts_in Dxe catalog) old.discovered b.0)
    ∙ find_more test (discovered_order catalog old) (drivers_of catalog b.0) number h

pub driver_steps_grow : DriverStepsGrow
driver_steps_grow catalog fuel m =
    let g = case_grows catalog fuel m (dxe_case_of catalog m) in
    record { store = g.0; discovered = g.1; requested = g.2; named = named_more catalog m (in_dxe_case catalog fuel m (dxe_case_of catalog m)) g.1 }

-- the drivers are no more than the modules
below : (catalog : Catalog) (volumes : List ℕ) (xs : List ℕ) → Each (IsKnown catalog volumes) xs → Each (λ n. n < length catalog.modules) xs
below catalog volumes xs e = each_more (IsKnown catalog volumes) (λ n. n < length catalog.modules) xs (λ n is. within (part_of Dxe) catalog.modules n is.0) e

lengths : {A B : Type 0} (f : A → B) (xs : List A) → length (map f xs) ≡ length xs
lengths f [] = refl
lengths f (x ∷ xs) = let on = lengths f xs in omega (arith, on)

both_lengths : {A : Type 0} (xs ys : List A) → length (xs ++ ys) ≡ length xs + length ys
both_lengths [] ys = omega arith
both_lengths (x ∷ xs) ys = let on = both_lengths xs ys in omega (arith, on)

few_drivers : (catalog : Catalog) (m : DxeMachine) → IsQueued catalog m → AreFewDrivers catalog m
few_drivers catalog m q =
    let all = numbers_of m.scheduled ++ m.started in
    let known = each_append (IsKnown catalog m.discovered) (numbers_of m.scheduled) m.started q.queue_known q.started_known in
    let most = few_below all (length catalog.modules) (all_differ all (distinct_append (numbers_of m.scheduled) m.started q.queue_differs q.started_differ q.apart))
    (below catalog m.discovered all known) in
    let parts = both_lengths (numbers_of m.scheduled) m.started in
    let queue = lengths (λ (next : Scheduled). next.module_number) m.scheduled in
    let order = discovered_order catalog m in
    record {
      order = few_below order (length catalog.modules) (all_differ order (distinct_of catalog (parts_in Dxe catalog) (drivers_are catalog) m.discovered q.volumes_differ))
          (below catalog m.discovered order (known_of catalog (parts_in Dxe catalog) (drivers_are catalog) m.discovered));
      queue = omega (arith, most, parts, queue);
    }

pub drivers_are_few : DriversAreFew
drivers_are_few catalog numbered fuel n s actions =
    let m = dxe_opening catalog s actions in few_drivers catalog (dxe_run catalog fuel n m) (run_queued catalog fuel n m numbered (opens_queued catalog s actions numbered))
