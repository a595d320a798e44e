-- No driver starts twice: each machine of a run keeps its queue without one.
use Rattle.std.proofs.Common.{◌≡◌, ℕ, zero, suc, Bool, true, false, cond, List, [], ◌∷◌, ◌++◌, Option, Some, None, refl, sym, subst, ap, ◌∙◌, inl, inr, nat_le, length, flat_map}
use Rattle.mod_catalog.specs.{declared.catalogue.Catalog.Catalog, declared.catalogue.Part.Part, WellFormed.AreNumbered, Parts.part_at}
use Rattle.boot_model.specs.{DxeMachine.DriverFrame, DxeMachine.DxeMachine, declared.driver.Scheduled.Scheduled, Reporting.newcomers}
use Rattle.pi_base.specs.{declared.phase.Phase.TheVariants.Dxe, Lists.Each}
use Rattle.store_model.specs.{StoreState.StoreState, Service.Reading.fv_bases}
use Rattle.boot_model.specs.{Discovery.discoveries, DxeChoice.a_priori_drivers, DxeRun.dxe_run, DxeRun.dxe_opening}
use Rattle.boot_model.specs.declared.phase_end.DxeEnd.TheVariants as DxeEnds
use Rattle.boot_model.specs.DxeAction.{DxeEffect, Wrote, Called, Logged, Skipped, Returned, Own, dxe_effect, with_volumes}
use Rattle.boot_model.specs.DxeStep.{DxeCase, DxeFires, DxeActs, DxeStarts, DxeStops, dxe_case_of, in_dxe_case, dxe_step, protocol_begun, after_dxe_effect, with_action, dxe_action_at, driver_started}
use Rattle.boot_laws.specs.{DriverStarts.DriversStartOnce, DiscoveredOrder.DiscoveredOrderHasEachOnce}
use Rattle.boot_laws.proofs.{EachDriver.has_each_once, PartLists.ranked_in, DxeCases.starts_from}
use Rattle.boot_model.proofs.Distinct.{Distinct, all_differ}
use Rattle.boot_laws.proofs.Volumes.{IsNew, newcomers_new, newcomers_differ, discoveries_differ}
use Rattle.boot_model.specs.DriverLicence.{numbers_of}
use Rattle.boot_laws.proofs.Queue.{AreQueued, IsQueued, discovered_more, head_dropped, head_started, next_queued, numbers_of_map, numbers_of_append}
use Rattle.boot_laws.proofs.DriverActions.{Follows, EffectFollows, effect_follows}

-- the numbers of the drivers that volumes schedule
pub priori_numbers : (catalog : Catalog) (volumes : List ℕ) → numbers_of (a_priori_drivers catalog volumes) ≡ flat_map (ranked_in catalog) volumes
priori_numbers catalog volumes = numbers_of_map _ (λ n. refl) (flat_map (ranked_in catalog) volumes)

with_priori : (catalog : Catalog) (queue : List Scheduled) (volumes : List ℕ) → numbers_of (queue ++ a_priori_drivers catalog volumes) ≡ numbers_of queue ++ flat_map (ranked_in catalog) volumes
with_priori catalog queue volumes = numbers_of_append queue (a_priori_drivers catalog volumes) ∙ ap (λ ns. numbers_of queue ++ ns) (priori_numbers catalog volumes)

volumes_queued : (catalog : Catalog) (m : DxeMachine) (volume : ℕ) → AreNumbered 0 catalog.volumes → IsQueued catalog m → IsQueued catalog (with_volumes catalog m (newcomers catalog m.discovered (Some volume)))
volumes_queued catalog m volume numbered q =
    let new = newcomers catalog m.discovered (Some volume) in
    let more = discovered_more catalog m.discovered (numbers_of m.scheduled) m.started new (newcomers_new catalog m.discovered (Some volume)) (newcomers_differ catalog m.discovered (Some volume) numbered) q in
    subst (λ ns. AreQueued catalog (m.discovered ++ new) ns m.started) (sym (with_priori catalog m.scheduled new)) more

same_queued : (catalog : Catalog) (volumes : List ℕ) (queue : List Scheduled) (started volumes' : List ℕ) (queue' : List Scheduled) (started' : List ℕ)
    → volumes' ≡ volumes → queue' ≡ queue → started' ≡ started → AreQueued catalog volumes (numbers_of queue) started → AreQueued catalog volumes' (numbers_of queue') started'
same_queued catalog volumes queue started volumes' queue' started' v k s q = rw v (rw k (rw s q))

follows_queued : (catalog : Catalog) (old new : DxeMachine) → AreNumbered 0 catalog.volumes → Follows catalog old new → IsQueued catalog old → IsQueued catalog new
follows_queued catalog old new numbered (inl h) q = same_queued catalog old.discovered old.scheduled old.started new.discovered new.scheduled new.started h.discovered h.scheduled h.started q
follows_queued catalog old new numbered (inr h) q = subst (IsQueued catalog) (sym h.1) (volumes_queued catalog old h.0 numbered q)

pub effect_queued : (catalog : Catalog) (m : DxeMachine) (frame : DriverFrame) (below : List DriverFrame) (e : DxeEffect) → AreNumbered 0 catalog.volumes → EffectFollows catalog m e → IsQueued catalog m
    → IsQueued catalog (after_dxe_effect m frame below e)
effect_queued catalog m frame below (Wrote registers status) numbered f q = q
effect_queued catalog m frame below (Called name reply) numbered f q = follows_queued catalog m reply.machine numbered f q
effect_queued catalog m frame below (Logged text) numbered f q = q
effect_queued catalog m frame below (Skipped n) numbered f q = q
effect_queued catalog m frame below (Returned status) numbered f q = q
effect_queued catalog m frame below (Own own) numbered f q = absurd own

either_queued : (catalog : Catalog) (b : Bool) (one other : DxeMachine) → IsQueued catalog one → IsQueued catalog other → IsQueued catalog (cond b one other)
either_queued catalog true one other h k = h
either_queued catalog false one other h k = k

pub start_queued : (catalog : Catalog) (m : DxeMachine) (next : Scheduled) (queue : List Scheduled) (part : Option Part) → AreQueued catalog m.discovered (numbers_of (next ∷ queue)) m.started
    → IsQueued catalog (driver_started catalog m next queue part)
start_queued catalog m next queue None q = head_dropped catalog m.discovered next.module_number (numbers_of queue) m.started q
start_queued catalog m next queue (Some part) q = head_started catalog m.discovered next.module_number (numbers_of queue) m.started q

pub queue_is : (catalog : Catalog) (m : DxeMachine) (next : Scheduled) (queue : List Scheduled) → dxe_case_of catalog m ≡ DxeStarts next queue → IsQueued catalog m → AreQueued catalog m.discovered (numbers_of (next ∷ queue)) m.started
queue_is catalog m next queue e q =
    let is = starts_from catalog m m.frames next queue e in
    subst (λ queue. AreQueued catalog m.discovered (numbers_of queue) m.started) is.1 (next_queued catalog m q)

pub case_queued : (catalog : Catalog) (fuel : ℕ) (m : DxeMachine) (case : DxeCase) → AreNumbered 0 catalog.volumes → dxe_case_of catalog m ≡ case → IsQueued catalog m → IsQueued catalog (in_dxe_case catalog fuel m case)
case_queued catalog fuel m (DxeFires note sweep frame below) numbered e q =
    either_queued catalog (nat_le 64 (length m.frames)) (record m { ended = Some DxeEnds.Deep }) (protocol_begun catalog m note sweep frame below) q q
case_queued catalog fuel m (DxeActs frame below) numbered e q =
    let does : DxeEffect = dxe_effect catalog (with_action m) frame (dxe_action_at catalog frame) in
    either_queued catalog (nat_le fuel m.actions) (record m { ended = Some DxeEnds.Spent }) (after_dxe_effect (with_action m) frame below does) q
    (effect_queued catalog (with_action m) frame below does numbered (effect_follows catalog (with_action m) frame (dxe_action_at catalog frame)) q)
case_queued catalog fuel m (DxeStarts next queue) numbered e q = start_queued catalog m next queue (part_at Dxe catalog next.module_number) (queue_is catalog m next queue e q)
case_queued catalog fuel m DxeStops numbered e q = q

pub run_queued : (catalog : Catalog) (fuel n : ℕ) (m : DxeMachine) → AreNumbered 0 catalog.volumes → IsQueued catalog m → IsQueued catalog (dxe_run catalog fuel n m)
run_queued catalog fuel zero m numbered q = q
run_queued catalog fuel (suc n) m numbered q =
    elim m.ended as (λ o. IsQueued catalog (elim o as (λ _. DxeMachine) [ Some end ↦ m | None ↦ dxe_run catalog fuel n (dxe_step catalog fuel m) ]))
    [ Some end ↦ q | None ↦ run_queued catalog fuel n (dxe_step catalog fuel m) numbered (case_queued catalog fuel m (dxe_case_of catalog m) numbered refl q) ]

all_new : (volumes : List ℕ) → Each (IsNew []) volumes
all_new [] = tt
all_new (v ∷ vs) = (refl, all_new vs)

opening_queued : (catalog : Catalog) (volumes : List ℕ) → Distinct volumes → AreQueued catalog volumes (numbers_of (a_priori_drivers catalog volumes)) []
opening_queued catalog volumes d =
    let none : AreQueued catalog [] [] [] = record { volumes_differ = tt; queue_differs = tt; started_differ = tt; apart = tt; queue_known = tt; started_known = tt } in
    subst (λ ns. AreQueued catalog volumes ns []) (sym (priori_numbers catalog volumes)) (discovered_more catalog [] [] [] volumes (all_new volumes) d none)

pub opens_queued : (catalog : Catalog) (s : StoreState) (actions : ℕ) → AreNumbered 0 catalog.volumes → IsQueued catalog (dxe_opening catalog s actions)
opens_queued catalog s actions numbered = opening_queued catalog (discoveries catalog [] (fv_bases s)) (discoveries_differ catalog [] (fv_bases s) numbered)

pub start_once : DriversStartOnce
start_once catalog numbered fuel n s actions =
    let q : IsQueued catalog (dxe_run catalog fuel n (dxe_opening catalog s actions)) = run_queued catalog fuel n (dxe_opening catalog s actions) numbered (opens_queued catalog s actions numbered) in
    all_differ _ q.started_differ

pub order_has_each_once : DiscoveredOrderHasEachOnce
order_has_each_once catalog numbered fuel n s actions =
    let m = dxe_run catalog fuel n (dxe_opening catalog s actions) in
    let q : IsQueued catalog m = run_queued catalog fuel n (dxe_opening catalog s actions) numbered (opens_queued catalog s actions numbered) in
    has_each_once catalog m q.volumes_differ
