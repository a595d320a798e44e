-- The volumes that a machine of a run of PEI by choices has reported differ.
use Rattle.std.proofs.Common.{ℕ, Bool, true, false, cond, List, [], ◌∷◌, ◌++◌, ◌+◌, length, Option, Some, None, Ok, Err, nat_le, sym, subst, inl, inr}
use Rattle.pi_base.specs.{declared.phase.Phase.TheVariants.Pei, Lists.Each}
use Rattle.pi_base.proofs.ListFacts.{each_more, each_append}
use Rattle.mod_catalog.specs.{declared.catalogue.Catalog.Catalog, declared.catalogue.Part.Part, Parts.has_number, Parts.part_at}
use Rattle.mod_catalog.specs.WellFormed.{AreNumbered}
use Rattle.store_model.specs.{declared.store_handle.Sweep.Sweep, StoreState.Board, StoreState.StoreState, Service.Service}
use Rattle.store_model.specs.Service.Install.{core_install}
use Rattle.boot_model.specs.declared.line.Line.TheVariants as L
use Rattle.boot_model.specs.{declared.phase_end.PeiEnd.TheVariants.Spent, declared.phase_end.PeiEnd.TheVariants.Deep, PeiRun.pei_opening}
use Rattle.boot_model.specs.PeiMachine.{PeiMachine, Frame, printed}
use Rattle.boot_model.specs.PeiAction.{Effect, Wrote, Called, Own, Shadowed, Logged, Skipped, Returned, effect}
use Rattle.boot_model.specs.PeiStep.{PeiCase, Fires, Acts, Moves, Pops, Starts, Stops, case_of, in_case, callback_begun, action_at, after_effect, core_called, started_part}
use Rattle.boot_model.specs.Reporting.{newcomers, reports, told_at}
use Rattle.boot_model.proofs.Distinct.{Distinct, distinct_append}
use Rattle.boot_laws.proofs.Volumes.{IsNew, newcomers_new, newcomers_differ, new_apart, parted, distinct_family}
use Rattle.pei_dispatch.specs.Choices.{IsRunBy, IsStepBy}

-- what a call reports is new, and differs
reports_new : (catalog : Catalog) (s : StoreState) (known places : List ℕ) → Each (IsNew known) (reports catalog s known places)
reports_new catalog s known [] = tt
reports_new catalog s known (place ∷ places) =
    let first = newcomers catalog known (told_at catalog s place) in
    each_append (IsNew known) first (reports catalog s (known ++ first) places) (newcomers_new catalog known (told_at catalog s place))
    (each_more (IsNew (known ++ first)) (IsNew known) (reports catalog s (known ++ first) places) (λ v h. (parted known first v h).0) (reports_new catalog s (known ++ first) places))

reports_differ : (catalog : Catalog) (s : StoreState) (known places : List ℕ) → AreNumbered 0 catalog.volumes → Distinct (reports catalog s known places)
reports_differ catalog s known [] numbered = tt
reports_differ catalog s known (place ∷ places) numbered =
    let first = newcomers catalog known (told_at catalog s place) in
    let later = reports catalog s (known ++ first) places in
    distinct_append first later (newcomers_differ catalog known (told_at catalog s place) numbered) (reports_differ catalog s (known ++ first) places numbered)
    (new_apart first later (each_more (IsNew (known ++ first)) (IsNew first) later (λ v h. (parted known first v h).1) (reports_new catalog s (known ++ first) places)))

more_differ : (catalog : Catalog) (s : StoreState) (known places : List ℕ) → AreNumbered 0 catalog.volumes → Distinct known → Distinct (known ++ reports catalog s known places)
more_differ catalog s known places numbered d =
    distinct_append known (reports catalog s known places) d (reports_differ catalog s known places numbered) (new_apart known (reports catalog s known places) (reports_new catalog s known places))

abbrev Differ : PeiMachine → Type 0
Differ m = Distinct m.reported

either_differ : (b : Bool) (one other : PeiMachine) → Differ one → Differ other → Differ (cond b one other)
either_differ true one other h k = h
either_differ false one other h k = k

effect_differs : (catalog : Catalog) (m : PeiMachine) (frame : Frame) (below : List Frame) (e : Effect) → AreNumbered 0 catalog.volumes → Differ m → Differ (after_effect catalog m frame below e)
effect_differs catalog m frame below (Wrote registers status) numbered h = h
effect_differs catalog m frame below (Called name reply) numbered h = more_differ catalog reply.store m.reported reply.installs numbered h
effect_differs catalog m frame below (Own Shadowed) numbered h = either_differ (has_number m.shadows frame.module_number) _ _ h h
effect_differs catalog m frame below (Logged text) numbered h = h
effect_differs catalog m frame below (Skipped n) numbered h = h
effect_differs catalog m frame below (Returned status) numbered h = h

core_differs : (m : PeiMachine) (service : Service Sweep) → Differ m → Differ (core_called m service)
core_differs m (Ok done) h = h
core_differs m (Err fault) h = h

part_differs : (catalog : Catalog) (m : PeiMachine) (number : ℕ) (part : Option Part) → Differ m → Differ (started_part catalog m number part)
part_differs catalog m number None h = h
part_differs catalog m number (Some part) h = h

case_differs : (catalog : Catalog) (fuel : ℕ) (m : PeiMachine) (case : PeiCase) → AreNumbered 0 catalog.volumes → Differ m → Differ (in_case catalog fuel m case)
case_differs catalog fuel m (Fires firing sweep) numbered h = either_differ (nat_le 64 (length m.frames)) (record m { ended = Some Deep }) (callback_begun catalog m firing sweep) h h
case_differs catalog fuel m (Acts frame below) numbered h =
    either_differ (nat_le fuel m.actions) (record m { ended = Some Spent }) _ h (effect_differs catalog (record m { actions = m.actions + 1 }) frame below (effect m.store frame (action_at catalog frame)) numbered h)
case_differs catalog fuel m (Moves new) numbered h = core_differs (record (printed m (L.Migrate m.store.base new.base ∷ [])) { store = new }) (core_install new) h
case_differs catalog fuel m (Pops firing new) numbered h = h
case_differs catalog fuel m (Starts number) numbered h = part_differs catalog m number (part_at Pei catalog number) h
case_differs catalog fuel m Stops numbered h = h

pub run_differs : (Names : PeiMachine → Option ℕ → Type 0) (Lets : PeiMachine → ℕ → Bool) (board : Board) (catalog : Catalog) (fuel : ℕ) (earlier : List PeiMachine) (m : PeiMachine) → AreNumbered 0 catalog.volumes
    → IsRunBy Names Lets catalog fuel (pei_opening board catalog) earlier m → Differ m
run_differs Names Lets board catalog fuel [] m numbered run = subst Differ (sym run) (distinct_family catalog 0 numbered)
run_differs Names Lets board catalog fuel (before ∷ earlier) m numbered run = by (run_differs Names Lets board catalog fuel earlier before numbered run.2) run.1
  where
    by : Differ before → IsStepBy Names Lets catalog fuel before m → Differ m
    by was (inl own) = subst Differ (sym own.is) (case_differs catalog fuel before (case_of catalog before) numbered was)
    by was (inr start) = subst Differ (sym start.is) (part_differs catalog before start.number (part_at Pei catalog start.number) was)
