-- In a free run each PEIM that starts has its licence, and PEI stops only where none may start.
use Rattle.std.proofs.Common.{◌≡◌, ℕ, Bool, true, false, ◌||◌, cond, List, [], ◌∷◌, Option, Some, None, refl, sym, ap, subst, ◌∙◌, is_some, option_and_then, ◌+◌, nat_le, length, Ok, Err, inl, inr}
use Rattle.pi_base.specs.declared.phase.Phase.TheVariants.{Pei}
use Rattle.mod_catalog.specs.{declared.catalogue.Catalog.Catalog, declared.catalogue.Part.Part, declared.catalogue.PartExpr.PartExpr}
use Rattle.mod_catalog.specs.declared.catalogue.PartExpr.TheVariants as E
use Rattle.mod_catalog.specs.{Parts.has_number, Parts.part_at, WellFormed.IsWellFormed}
use Rattle.store_model.specs.{declared.store_handle.Firing.Firing, declared.store_handle.Sweep.Sweep, StoreState.StoreState}
use Rattle.store_model.specs.{Service.Sweep.next_match, Service.Queue.queue_pop, Migration.migration, Service.Service}
use Rattle.store_model.specs.Service.Install.{core_install}
use Rattle.boot_model.specs.declared.licence.Licence.TheVariants as G
use Rattle.boot_model.specs.declared.line.Line.TheVariants as L
use Rattle.boot_model.specs.{declared.phase_end.PeiEnd.TheVariants.Spent, declared.phase_end.PeiEnd.TheVariants.Deep, PeiRun.pei_opening}
use Rattle.boot_model.specs.PeiAction.{Effect, Wrote, Called, Own, Shadowed, Logged, Skipped, Returned, effect}
use Rattle.boot_model.specs.PeiMachine.{PeiMachine, Frame, printed}
use Rattle.boot_model.specs.PeiStep.{PeiCase, Fires, Acts, Moves, Pops, Starts, Stops, action_at, after_effect, callback_begun, case_of, core_called, open_sweep, started_part}
use Rattle.boot_model.specs.Eligible.{is_eligible, lets_start, licence_by, may_start, may_start_again}
use Rattle.boot_model.specs.FreeRun.{IsFreeIn, IsFreePeiRun, MayStart}
use Rattle.boot_model.specs.Licence.{IsLicensed, IsPartAmong, StopsIdle}
use Rattle.boot_model.specs.PeiChoice.{next_peim, pei_order, rotated, volume_order}
use Rattle.boot_model.proofs.ListFacts.{each_at, each_flat, each_has, each_more}
use Rattle.boot_laws.proofs.{PeiCases.cases, PeiOrders.in_pei_order, PeiOrders.volume_parts_are, PartLists.IsPartOfVolume}
use Rattle.boot_laws.proofs.{PeiWays.may_has_part, NumberLists.each_turned, NumberLists.none_found}
use Rattle.free_laws.proofs.PeimsOnce.{second_start}
use Rattle.free_laws.specs.FreePei.{EachStep, FreePeiStopsIdle, FreePeimsStartLicensed, HasStarted, HasStartedNone, StartsLicensed}

-- the licence of a first start, by the part's fields
first_start : (m : PeiMachine) (number : ℕ) (part : Part) (rank : Option ℕ) (expr : PartExpr) → part.rank ≡ rank → part.expr ≡ expr → (is_some rank || lets_start m.store expr) ≡ true → IsLicensed m number part (licence_by rank expr)
first_start m number part (Some rank) expr r e h = ap is_some r
first_start m number part None E.Absent r e h = e
first_start m number part None (E.Malformed at) r e h = cc
first_start m number part None (E.Held expression) r e h = (expression, e, h)

-- and of any start, by whether the part has started
by_started : (m : PeiMachine) (number : ℕ) (part : Part) (before : Bool) → cond before (may_start_again m number) (may_start m.store (Some part)) ≡ true
    → IsLicensed m number part (cond before G.Shadow (licence_by part.rank part.expr))
by_started m number part true h = second_start (has_number m.shadows number) (has_number m.again number) m.store.moved h
by_started m number part false h = first_start m number part part.rank part.expr refl refl h

-- what stands in the PEI order is of a reported volume
among : (catalog : Catalog) (reported : List ℕ) (number : ℕ) → has_number (pei_order catalog reported) number ≡ true → IsPartAmong Pei catalog reported number
among catalog reported number has =
    each_at (IsPartAmong Pei catalog reported) (pei_order catalog reported) number
    (each_flat (IsPartAmong Pei catalog reported) (λ v. has_number reported v ≡ true) (volume_order catalog) reported
    (λ v there. each_more (IsPartOfVolume Pei catalog v) (IsPartAmong Pei catalog reported) (volume_order catalog v) (λ n is. (is.0, subst (λ w. has_number reported w ≡ true) (sym is.1) there)) (volume_parts_are catalog v)) (each_has reported))
    has

-- a part that may start, once it is there
part_starts : (catalog : Catalog) (m : PeiMachine) (number : ℕ) (o : Option Part) → part_at Pei catalog number ≡ o → is_some o ≡ true → MayStart catalog m number → HasStarted catalog m (started_part catalog m number o)
part_starts catalog m number None is some may = cc
part_starts catalog m number (Some part) is some may = record {
  number = number;
  part = part;
  part_is = is;
  among = among catalog m.reported number may.0;
  licensed = by_started m number part (has_number m.started number) (sym (ap (λ o. cond (has_number m.started number) (may_start_again m number) (may_start m.store o)) is) ∙ may.1);
  later_is = refl;
}

-- each other step starts none
either_none : (m : PeiMachine) (b : Bool) (one other : PeiMachine) → HasStartedNone m one → HasStartedNone m other → HasStartedNone m (cond b one other)
either_none m true one other h k = h
either_none m false one other h k = k

effect_none : (catalog : Catalog) (m : PeiMachine) (frame : Frame) (below : List Frame) (does : Effect) → HasStartedNone m (after_effect catalog m frame below does)
effect_none catalog m frame below (Wrote registers status) = (refl, refl)
effect_none catalog m frame below (Called name reply) = (refl, refl)
effect_none catalog m frame below (Own Shadowed) = either_none m (has_number m.shadows frame.module_number) _ _ (refl, refl) (refl, refl)
effect_none catalog m frame below (Logged text) = (refl, refl)
effect_none catalog m frame below (Skipped n) = (refl, refl)
effect_none catalog m frame below (Returned status) = (refl, refl)

core_none : (m : PeiMachine) (service : Service Sweep) → HasStartedNone m (core_called m service)
core_none m (Ok done) = (refl, refl)
core_none m (Err fault) = (refl, refl)

own_starts : (catalog : Catalog) (m later next : PeiMachine) → later ≡ next → HasStartedNone m next → StartsLicensed catalog m later
own_starts catalog m later next is none = inl (subst (HasStartedNone m) (sym is) none)

step_starts : (catalog : Catalog) (fuel : ℕ) (m later : PeiMachine) (case : PeiCase) → IsFreeIn catalog fuel m case later → StartsLicensed catalog m later
step_starts catalog fuel m later (Fires firing sweep) step =
    own_starts catalog m later _ step (either_none m (nat_le 64 (length m.frames)) (record m { ended = Some Deep }) (callback_begun catalog m firing sweep) (refl, refl) (refl, refl))
step_starts catalog fuel m later (Acts frame below) step =
    let counted : PeiMachine = record m { actions = m.actions + 1 } in
    let does : Effect = effect m.store frame (action_at catalog frame) in
    let acts : HasStartedNone counted (after_effect catalog counted frame below does) = effect_none catalog counted frame below does in
    own_starts catalog m later _ step (either_none m (nat_le fuel m.actions) (record m { ended = Some Spent }) (after_effect catalog counted frame below does) (refl, refl) acts)
step_starts catalog fuel m later (Moves new) step =
    let before : PeiMachine = record (printed m (L.Migrate m.store.base new.base ∷ [])) { store = new } in own_starts catalog m later _ step (core_none before (core_install new))
step_starts catalog fuel m later (Pops firing new) step = own_starts catalog m later _ step (refl, refl)
step_starts catalog fuel m later (Starts first) step =
    inr (subst (HasStarted catalog m) (sym step.2) (part_starts catalog m step.0 (part_at Pei catalog step.0) refl (may_has_part catalog m step.0 step.1) step.1))
step_starts catalog fuel m later Stops step = own_starts catalog m later _ step (refl, refl)

run_starts : (catalog : Catalog) (fuel : ℕ) (m : PeiMachine) (run : List PeiMachine) → IsFreePeiRun catalog fuel m run → EachStep (StartsLicensed catalog) m run
run_starts catalog fuel m [] goes = tt
run_starts catalog fuel m (later ∷ rest) goes = (step_starts catalog fuel m later (case_of catalog m) goes.1, run_starts catalog fuel later rest goes.2)

pub start_licensed : FreePeimsStartLicensed
start_licensed board catalog fuel run goes = run_starts catalog fuel (pei_opening board catalog) run goes

-- where PEI stops, nothing is found
stops_from : (a : Option (Firing × Sweep)) (frames : List Frame) (c : Option StoreState) (d : Option (Firing × StoreState)) (e : Option ℕ) → cases a frames c d e ≡ Stops → e ≡ None
stops_from (Some a) frames c d e h = cc
stops_from None (frame ∷ below) c d e h = cc
stops_from None [] (Some c) d e h = cc
stops_from None [] None (Some d) e h = cc
stops_from None [] None None (Some e) h = cc
stops_from None [] None None None h = refl

idle : (catalog : Catalog) (m : PeiMachine) → IsWellFormed catalog → StopsIdle catalog m
idle catalog m well stops number is =
    let order = pei_order catalog m.reported in
    let none = stops_from (option_and_then (next_match m.store) (open_sweep m m.frames)) m.frames (migration m.store) (queue_pop m.store) (next_peim catalog m) stops in
    let fails = each_turned (λ n. is_eligible catalog m n ≡ false) m.cursor order (none_found (is_eligible catalog m) (rotated m.cursor order) none) in
    each_at (λ n. is_eligible catalog m n ≡ false) order number fails (in_pei_order catalog m.reported number well is)

run_stops : (catalog : Catalog) (m : PeiMachine) (run : List PeiMachine) → IsWellFormed catalog → EachStep (λ m later. StopsIdle catalog m) m run
run_stops catalog m [] well = tt
run_stops catalog m (later ∷ rest) well = (idle catalog m well, run_stops catalog later rest well)

pub stops_idle : FreePeiStopsIdle
stops_idle board catalog fuel run well goes = run_stops catalog (pei_opening board catalog) run well
