-- Along a run of DXE each driver that is scheduled has had its licence.
use Rattle.std.proofs.Common.{◌≡◌, ℕ, zero, suc, Bool, true, false, cond, List, [], ◌∷◌, ◌++◌, Option, Some, None, refl, sym, subst, inl, inr, is_some, nat_le, length, flat_map, option_and_then}
use Rattle.pi_base.specs.{declared.phase.Phase.TheVariants.Dxe, Lists.Each}
use Rattle.mod_catalog.specs.{declared.catalogue.Catalog.Catalog, declared.catalogue.Part.Part}
use Rattle.boot_model.specs.{DxeMachine.DriverFrame, DxeMachine.DxeMachine, declared.driver.Scheduled.Scheduled, Reporting.newcomers}
use Rattle.boot_model.specs.declared.licence.Licence.TheVariants as G
use Rattle.store_model.specs.Service.Reading.{fv_bases}
use Rattle.mod_catalog.specs.Parts.{part_at, rank_at, module_volume}
use Rattle.boot_model.specs.{Discovery.discoveries, DxeRun.dxe_opening, DriverLicence.IsMember}
use Rattle.boot_model.specs.declared.phase_end.DxeEnd.TheVariants as DxeEnds
use Rattle.boot_model.specs.DxeChoice.{driver_queue, queue_from, a_priori_drivers}
use Rattle.boot_model.specs.DxeAction.{DxeEffect, Wrote, Called, Logged, Skipped, Returned, Own, dxe_effect, with_volumes}
use Rattle.boot_model.specs.DxeStep.{DxeCase, DxeFires, DxeActs, DxeStarts, DxeStops, dxe_case_of, in_dxe_case, dxe_step, protocol_begun, after_dxe_effect, with_action, dxe_action_at, driver_started}
use Rattle.boot_laws.specs.DriverLicences.{OneOf, IsApriori, group_of, IsScheduledFrom, WasLicensed, IsLicensedDxeStep, AlongDxeRun, DriversStartLicensed}
use Rattle.boot_model.proofs.ListFacts.{each_more, each_append, each_both}
use Rattle.boot_laws.proofs.PartLists.{IsKnown, known_of, ranked_in, ranked_are, each_flat_ranked}
use Rattle.boot_laws.proofs.{Queue.has_more, Queue.has_behind, DxeCases.starts_from}
use Rattle.boot_laws.proofs.DriverActions.{Follows, EffectFollows, effect_follows}
use Rattle.boot_laws.proofs.{GroupLicences.each_of_map, GroupLicences.schedules_licensed, DxeStopsIdle.stops_idle}

-- the drivers that are scheduled in a machine were licensed before it
abbrev QueueWas : Catalog → List DxeMachine → DxeMachine → Type 0
QueueWas catalog past m = Each (WasLicensed catalog past m.discovered) m.scheduled

-- an a priori driver is one of a volume among more
more_apriori : (catalog : Catalog) (volumes more : List ℕ) (next : Scheduled) → IsApriori catalog volumes next → IsApriori catalog (volumes ++ more) next
more_apriori catalog volumes more next h =
    record { part = h.part; is = h.is; ranked = h.ranked; licence = h.licence; volume = has_more volumes more (module_volume catalog next.module_number) h.volume }

more_licensed : (catalog : Catalog) (past : List DxeMachine) (volumes more : List ℕ) (next : Scheduled) → WasLicensed catalog past volumes next → WasLicensed catalog past (volumes ++ more) next
more_licensed catalog past volumes more next (inl h) = inl (more_apriori catalog volumes more next h)
more_licensed catalog past volumes more next (inr h) = inr h

later_licensed : (catalog : Catalog) (past : List DxeMachine) (m : DxeMachine) (volumes : List ℕ) (next : Scheduled) → WasLicensed catalog past volumes next → WasLicensed catalog (m ∷ past) volumes next
later_licensed catalog past m volumes next (inl h) = inl h
later_licensed catalog past m volumes next (inr h) = inr (inr h)

-- the a priori drivers of volumes
ranked_part : (o : Option Part) → is_some (option_and_then (λ part. part.rank) o) ≡ true → (part : Part) × (o ≡ Some part) × (is_some part.rank ≡ true)
ranked_part None h = cc
ranked_part (Some part) h = (part, refl, h)

apriori_of : (catalog : Catalog) (volumes : List ℕ) (n : ℕ) → is_some (rank_at Dxe catalog n) ≡ true → IsKnown catalog volumes n → IsApriori catalog volumes (record { module_number = n; licence = G.Apriori })
apriori_of catalog volumes n ranked known =
    let found = ranked_part (part_at Dxe catalog n) ranked in record { part = found.0; is = found.1; ranked = found.2; licence = refl; volume = known.1 }

all_apriori : (catalog : Catalog) (volumes : List ℕ) → Each (IsApriori catalog volumes) (a_priori_drivers catalog volumes)
all_apriori catalog volumes =
    let numbers = flat_map (ranked_in catalog) volumes in
    each_of_map (IsApriori catalog volumes) _ numbers
    (each_more (λ n. (is_some (rank_at Dxe catalog n) ≡ true) × IsKnown catalog volumes n) (λ n. IsApriori catalog volumes (record { module_number = n; licence = G.Apriori })) numbers
    (λ n h. apriori_of catalog volumes n h.0 h.1)
    (each_both (λ n. is_some (rank_at Dxe catalog n) ≡ true) (IsKnown catalog volumes) numbers (each_flat_ranked catalog volumes) (known_of catalog (ranked_in catalog) (ranked_are catalog) volumes)))

behind_apriori : (catalog : Catalog) (volumes more : List ℕ) (next : Scheduled) → IsApriori catalog more next → IsApriori catalog (volumes ++ more) next
behind_apriori catalog volumes more next h =
    record { part = h.part; is = h.is; ranked = h.ranked; licence = h.licence; volume = has_behind volumes more (module_volume catalog next.module_number) h.volume }

volumes_was : (catalog : Catalog) (past : List DxeMachine) (m : DxeMachine) (new : List ℕ) → QueueWas catalog past m → QueueWas catalog past (with_volumes catalog m new)
volumes_was catalog past m new h =
    let was : Scheduled → Type 0 = WasLicensed catalog past (m.discovered ++ new) in
    each_append was m.scheduled (a_priori_drivers catalog new) (each_more (WasLicensed catalog past m.discovered) was m.scheduled (more_licensed catalog past m.discovered new) h)
    (each_more (IsApriori catalog new) was (a_priori_drivers catalog new) (λ next k. inl (behind_apriori catalog m.discovered new next k)) (all_apriori catalog new))

same_was : (catalog : Catalog) (past : List DxeMachine) (volumes volumes' : List ℕ) (queue queue' : List Scheduled) → volumes' ≡ volumes → queue' ≡ queue
    → Each (WasLicensed catalog past volumes) queue → Each (WasLicensed catalog past volumes') queue'
same_was catalog past volumes volumes' queue queue' v q h = rw v (rw q h)

follows_was : (catalog : Catalog) (past : List DxeMachine) (old new : DxeMachine) → Follows catalog old new → QueueWas catalog past old → QueueWas catalog past new
follows_was catalog past old new (inl k) h = same_was catalog past old.discovered new.discovered old.scheduled new.scheduled k.discovered k.scheduled h
follows_was catalog past old new (inr k) h = subst (QueueWas catalog past) (sym k.1) (volumes_was catalog past old (newcomers catalog old.discovered (Some k.0)) h)

effect_was : (catalog : Catalog) (past : List DxeMachine) (m : DxeMachine) (frame : DriverFrame) (below : List DriverFrame) (e : DxeEffect) → EffectFollows catalog m e → QueueWas catalog past m
    → QueueWas catalog past (after_dxe_effect m frame below e)
effect_was catalog past m frame below (Wrote registers status) f h = h
effect_was catalog past m frame below (Called name reply) f h = follows_was catalog past m reply.machine f h
effect_was catalog past m frame below (Logged text) f h = h
effect_was catalog past m frame below (Skipped n) f h = h
effect_was catalog past m frame below (Returned status) f h = h
effect_was catalog past m frame below (Own own) f h = absurd own

either_was : (catalog : Catalog) (past : List DxeMachine) (b : Bool) (one other : DxeMachine) → QueueWas catalog past one → QueueWas catalog past other → QueueWas catalog past (cond b one other)
either_was catalog past true one other h k = h
either_was catalog past false one other h k = k

start_was : (catalog : Catalog) (past : List DxeMachine) (m : DxeMachine) (next : Scheduled) (queue : List Scheduled) (part : Option Part) → Each (WasLicensed catalog past m.discovered) queue
    → QueueWas catalog past (driver_started catalog m next queue part)
start_was catalog past m next queue None h = h
start_was catalog past m next queue (Some part) h = h

each_later : {A : Type 0} (x : A) (xs ys : List A) → Each (λ y. OneOf (λ other. other ≡ y) xs) ys → Each (λ y. OneOf (λ other. other ≡ y) (x ∷ xs)) ys
each_later x xs [] e = tt
each_later x xs (y ∷ ys) e = (inr e.0, each_later x xs ys e.1)

-- each of a list is one of it
all_in : {A : Type 0} (xs : List A) → Each (λ x. OneOf (λ other. other ≡ x) xs) xs
all_in [] = tt
all_in (x ∷ xs) = (inl refl, each_later x xs xs (all_in xs))

-- each of a group is scheduled from its machine
group_from : (catalog : Catalog) (m : DxeMachine) → m.frames ≡ [] → m.scheduled ≡ [] → Each (λ next. IsScheduledFrom catalog next m) (group_of catalog m)
group_from catalog m idle empty =
    each_more (λ next. OneOf (λ other. other ≡ next) (group_of catalog m) × IsMember catalog m (group_of catalog m) next) (λ next. IsScheduledFrom catalog next m) (group_of catalog m)
    (λ next h. record { idle = idle; empty = empty; member = h.0; licensed = h.1 })
    (each_both (λ next. OneOf (λ other. other ≡ next) (group_of catalog m)) (IsMember catalog m (group_of catalog m)) (group_of catalog m) (all_in (group_of catalog m)) (schedules_licensed catalog m))

queue_or_group : (P : List Scheduled → Type 0) (queue group : List Scheduled) → P queue → (queue ≡ [] → P group) → P (queue_from queue group)
queue_or_group P [] group p g = g refl
queue_or_group P (first ∷ rest) group p g = p

-- the queue from which the next driver starts
next_was : (catalog : Catalog) (past : List DxeMachine) (m : DxeMachine) → m.frames ≡ [] → QueueWas catalog past m → Each (WasLicensed catalog (m ∷ past) m.discovered) (driver_queue catalog m)
next_was catalog past m idle h =
    let was : Scheduled → Type 0 = WasLicensed catalog (m ∷ past) m.discovered in
    queue_or_group (Each was) m.scheduled (group_of catalog m) (each_more (WasLicensed catalog past m.discovered) was m.scheduled (later_licensed catalog past m m.discovered) h)
    (λ empty. each_more (λ next. IsScheduledFrom catalog next m) was (group_of catalog m) (λ next k. inr (inl k)) (group_from catalog m idle empty))

starts_was : (catalog : Catalog) (past : List DxeMachine) (m : DxeMachine) (next : Scheduled) (queue : List Scheduled) → dxe_case_of catalog m ≡ DxeStarts next queue → QueueWas catalog past m
    → Each (WasLicensed catalog (m ∷ past) m.discovered) (next ∷ queue)
starts_was catalog past m next queue e h =
    let is = starts_from catalog m m.frames next queue e in subst (Each (WasLicensed catalog (m ∷ past) m.discovered)) is.1 (next_was catalog past m is.0 h)

case_was : (catalog : Catalog) (fuel : ℕ) (past : List DxeMachine) (m : DxeMachine) (case : DxeCase) → dxe_case_of catalog m ≡ case → QueueWas catalog past m → QueueWas catalog (m ∷ past) (in_dxe_case catalog fuel m case)
case_was catalog fuel past m (DxeFires note sweep frame below) e h =
    let on = each_more _ (WasLicensed catalog (m ∷ past) m.discovered) m.scheduled (later_licensed catalog past m m.discovered) h in
    either_was catalog (m ∷ past) (nat_le 64 (length m.frames)) (record m { ended = Some DxeEnds.Deep }) (protocol_begun catalog m note sweep frame below) on on
case_was catalog fuel past m (DxeActs frame below) e h =
    let on = each_more _ (WasLicensed catalog (m ∷ past) m.discovered) m.scheduled (later_licensed catalog past m m.discovered) h in
    let does : DxeEffect = dxe_effect catalog (with_action m) frame (dxe_action_at catalog frame) in
    either_was catalog (m ∷ past) (nat_le fuel m.actions) (record m { ended = Some DxeEnds.Spent }) (after_dxe_effect (with_action m) frame below does) on
    (effect_was catalog (m ∷ past) (with_action m) frame below does (effect_follows catalog (with_action m) frame (dxe_action_at catalog frame)) on)
case_was catalog fuel past m (DxeStarts next queue) e h = start_was catalog (m ∷ past) m next queue (part_at Dxe catalog next.module_number) (starts_was catalog past m next queue e h).1
case_was catalog fuel past m DxeStops e h = each_more _ (WasLicensed catalog (m ∷ past) m.discovered) m.scheduled (later_licensed catalog past m m.discovered) h

licensed_step : (catalog : Catalog) (past : List DxeMachine) (m : DxeMachine) → QueueWas catalog past m → IsLicensedDxeStep catalog past m
licensed_step catalog past m h = record {
  schedules = schedules_licensed catalog m;
  queue = h;
  heads = λ next queue e. (starts_from catalog m m.frames next queue e).1;
  starts = λ next queue e. (starts_was catalog past m next queue e h).0;
  stops = stops_idle catalog m;
}

along : (catalog : Catalog) (fuel n : ℕ) (past : List DxeMachine) (m : DxeMachine) → QueueWas catalog past m → AlongDxeRun catalog fuel (IsLicensedDxeStep catalog) n past m
along catalog fuel zero past m h = tt
along catalog fuel (suc n) past m h =
    elim m.ended as (λ o. elim o as (λ _. Type 0) [ Some end ↦ Unit {0} | None ↦ IsLicensedDxeStep catalog past m × AlongDxeRun catalog fuel (IsLicensedDxeStep catalog) n (m ∷ past) (dxe_step catalog fuel m) ])
    [ Some end ↦ tt | None ↦ (licensed_step catalog past m h, along catalog fuel n (m ∷ past) (dxe_step catalog fuel m) (case_was catalog fuel past m (dxe_case_of catalog m) refl h)) ]

pub start_licensed : DriversStartLicensed
start_licensed catalog fuel n s actions =
    let volumes = discoveries catalog [] (fv_bases s) in
    along catalog fuel n [] (dxe_opening catalog s actions) (each_more (IsApriori catalog volumes) (WasLicensed catalog [] volumes) (a_priori_drivers catalog volumes) (λ next h. inl h) (all_apriori catalog volumes))
