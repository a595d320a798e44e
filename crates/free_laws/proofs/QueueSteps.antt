-- What a free step does to the queue: it puts a priori drivers of new volumes at its end, or the head of the queue starts, which is that of a group if nothing was scheduled.
use Rattle.std.proofs.Common.{◌≡◌, ◌⊎◌, ℕ, Bool, true, false, cond, List, [], ◌∷◌, ◌++◌, Option, Some, None, refl, sym, ap, subst, ◌∙◌, inl, inr, is_some, nat_le, length, flat_map, option_and_then}
use Rattle.pi_base.specs.{declared.phase.Phase.TheVariants.Dxe, Lists.Each}
use Rattle.mod_catalog.specs.{declared.catalogue.Catalog.Catalog, declared.catalogue.Part.Part}
use Rattle.mod_catalog.specs.Parts.{has_number, module_volume, part_at, rank_at}
use Rattle.boot_model.specs.declared.licence.Licence.TheVariants as G
use Rattle.boot_model.specs.declared.phase_end.DxeEnd.TheVariants as DxeEnds
use Rattle.boot_model.specs.{DxeMachine.DriverFrame, DxeMachine.DxeMachine, declared.driver.Scheduled.Scheduled, Reporting.newcomers}
use Rattle.boot_model.specs.DxeAction.{DxeEffect, Wrote, Called, Logged, Skipped, Returned, Own, dxe_effect, with_volumes}
use Rattle.boot_model.specs.DxeChoice.{a_priori_drivers, group_scheduled}
use Rattle.boot_model.specs.DxeStep.{DxeCase, DxeFires, DxeActs, DxeStarts, DxeStops, after_dxe_effect, driver_started, dxe_action_at, dxe_case_of, in_dxe_case, protocol_begun, with_action}
use Rattle.boot_model.specs.FreeRun.{IsFreeInDxe, IsFreeStart, IsStarted, MaySchedule}
use Rattle.boot_model.proofs.ListFacts.{each_both, each_more}
use Rattle.boot_laws.specs.DriverLicences.{IsApriori}
use Rattle.boot_laws.proofs.DriverActions.{EffectFollows, Follows, effect_follows}
use Rattle.boot_laws.proofs.{DxeCases.starts_from, GroupLicences.each_of_map, Queue.has_behind, Queue.has_more}
use Rattle.boot_laws.proofs.PartLists.{IsKnown, each_flat_ranked, known_of, ranked_are, ranked_in}

-- no driver has started, and a priori drivers of new volumes have joined the queue
pub record Joins (catalog : Catalog) (old new : DxeMachine) : Type 0 where
  pub more : List Scheduled
  pub queue : new.scheduled ≡ old.scheduled ++ more
  pub started : new.started ≡ old.started
  pub volumes : (v : ℕ) → has_number old.discovered v ≡ true → has_number new.discovered v ≡ true
  pub apriori : Each (IsApriori catalog new.discovered) more

-- what is scheduled before a start: the queue, or the group of a driver that may start
abbrev pub IsDue : Catalog → DxeMachine → List Scheduled → Type 0
IsDue catalog m queue = (m.scheduled ≡ queue) ⊎ ((m.scheduled ≡ []) × (root : ℕ) × MaySchedule catalog m root × (group_scheduled catalog m (Some root) ≡ queue))

pub record Heads (catalog : Catalog) (m later : DxeMachine) : Type 0 where
  pub next : Scheduled
  pub queue : List Scheduled
  pub idle : m.frames ≡ []
  pub due : IsDue catalog m (next ∷ queue)
  pub later_is : later ≡ driver_started catalog m next queue (part_at Dxe catalog next.module_number)

-- the a priori drivers of volumes
ranked_part : (o : Option Part) → is_some (option_and_then (λ part. part.rank) o) ≡ true → (part : Part) × (o ≡ Some part) × (is_some part.rank ≡ true)
ranked_part None h = cc
ranked_part (Some part) h = (part, refl, h)

apriori_of : (catalog : Catalog) (volumes : List ℕ) (n : ℕ) → is_some (rank_at Dxe catalog n) ≡ true → IsKnown catalog volumes n → IsApriori catalog volumes (record { module_number = n; licence = G.Apriori })
apriori_of catalog volumes n ranked known =
    let found = ranked_part (part_at Dxe catalog n) ranked in record { part = found.0; is = found.1; ranked = found.2; licence = refl; volume = known.1 }

pub all_apriori : (catalog : Catalog) (volumes : List ℕ) → Each (IsApriori catalog volumes) (a_priori_drivers catalog volumes)
all_apriori catalog volumes =
    let numbers = flat_map (ranked_in catalog) volumes in
    each_of_map (IsApriori catalog volumes) _ numbers
    (each_more (λ n. (is_some (rank_at Dxe catalog n) ≡ true) × IsKnown catalog volumes n) (λ n. IsApriori catalog volumes (record { module_number = n; licence = G.Apriori })) numbers (λ n h. apriori_of catalog volumes n h.0 h.1)
    (each_both (λ n. is_some (rank_at Dxe catalog n) ≡ true) (IsKnown catalog volumes) numbers (each_flat_ranked catalog volumes) (known_of catalog (ranked_in catalog) (ranked_are catalog) volumes)))

-- of more volumes
pub wider : (catalog : Catalog) (volumes more : List ℕ) (next : Scheduled) → ((v : ℕ) → has_number volumes v ≡ true → has_number more v ≡ true) → IsApriori catalog volumes next → IsApriori catalog more next
wider catalog volumes more next all h = record { part = h.part; is = h.is; ranked = h.ranked; licence = h.licence; volume = all (module_volume catalog next.module_number) h.volume }

pub to_end : {A : Type 0} (xs : List A) → xs ≡ xs ++ []
to_end [] = refl
to_end (x ∷ xs) = ap (λ l. x ∷ l) (to_end xs)

-- nothing joined
same : (catalog : Catalog) (old new : DxeMachine) → new.scheduled ≡ old.scheduled → new.started ≡ old.started → new.discovered ≡ old.discovered → Joins catalog old new
same catalog old new queue started volumes = record {
  more = [];
  queue = queue ∙ to_end old.scheduled;
  started = started;
  volumes = λ v h. subst (λ all. has_number all v ≡ true) (sym volumes) h;
  apriori = tt;
}

follows_joins : (catalog : Catalog) (old new : DxeMachine) → Follows catalog old new → Joins catalog old new
follows_joins catalog old new (inl h) = same catalog old new h.scheduled h.started h.discovered
follows_joins catalog old new (inr h) =
    let volumes = newcomers catalog old.discovered (Some h.0) in
    let joins : Joins catalog old (with_volumes catalog old volumes) = record {
      more = a_priori_drivers catalog volumes;
      queue = refl;
      started = refl;
      volumes = has_more old.discovered volumes;
      apriori = each_more (IsApriori catalog volumes) (IsApriori catalog (old.discovered ++ volumes)) (a_priori_drivers catalog volumes) (λ next k. wider catalog volumes (old.discovered ++ volumes) next (has_behind old.discovered volumes) k) (all_apriori catalog volumes);
    } in
    subst (Joins catalog old) (sym h.1) joins

effect_joins : (catalog : Catalog) (m : DxeMachine) (frame : DriverFrame) (below : List DriverFrame) (does : DxeEffect) → EffectFollows catalog m does → Joins catalog m (after_dxe_effect m frame below does)
effect_joins catalog m frame below (Wrote registers status) f = same catalog m _ refl refl refl
effect_joins catalog m frame below (Called name reply) f =
    let h = follows_joins catalog m reply.machine f in record { more = h.more; queue = h.queue; started = h.started; volumes = h.volumes; apriori = h.apriori }
effect_joins catalog m frame below (Logged text) f = same catalog m _ refl refl refl
effect_joins catalog m frame below (Skipped n) f = same catalog m _ refl refl refl
effect_joins catalog m frame below (Returned status) f = same catalog m _ refl refl refl
effect_joins catalog m frame below (Own own) f = absurd own

either_joins : (catalog : Catalog) (m : DxeMachine) (b : Bool) (one other : DxeMachine) → Joins catalog m one → Joins catalog m other → Joins catalog m (cond b one other)
either_joins catalog m true one other h k = h
either_joins catalog m false one other h k = k

acts_join : (catalog : Catalog) (fuel : ℕ) (m : DxeMachine) (frame : DriverFrame) (below : List DriverFrame) → Joins catalog m (in_dxe_case catalog fuel m (DxeActs frame below))
acts_join catalog fuel m frame below =
    let does : DxeEffect = dxe_effect catalog (with_action m) frame (dxe_action_at catalog frame) in
    let h = effect_joins catalog (with_action m) frame below does (effect_follows catalog (with_action m) frame (dxe_action_at catalog frame)) in
    either_joins catalog m (nat_le fuel m.actions) (record m { ended = Some DxeEnds.Spent }) (after_dxe_effect (with_action m) frame below does) (same catalog m _ refl refl refl)
    (record { more = h.more; queue = h.queue; started = h.started; volumes = h.volumes; apriori = h.apriori })

-- what starts is the head of what is due
started_heads : (catalog : Catalog) (m later : DxeMachine) (queue : List Scheduled) → m.frames ≡ [] → IsDue catalog m queue → IsStarted catalog m queue later → Heads catalog m later
started_heads catalog m later [] idle due h = absurd h
started_heads catalog m later (next ∷ queue) idle due h = record { next = next; queue = queue; idle = idle; due = due; later_is = h }

free_heads : (catalog : Catalog) (m later : DxeMachine) (scheduled : List Scheduled) → m.scheduled ≡ scheduled → m.frames ≡ [] → IsFreeStart catalog m scheduled later → Heads catalog m later
free_heads catalog m later [] e idle h = started_heads catalog m later (group_scheduled catalog m (Some h.0)) idle (inr (e, h.0, h.1, refl)) h.2
free_heads catalog m later (next ∷ queue) e idle h = started_heads catalog m later (next ∷ queue) idle (inl e) h

pub step_does : (catalog : Catalog) (fuel : ℕ) (m later : DxeMachine) (case : DxeCase) → dxe_case_of catalog m ≡ case → IsFreeInDxe catalog fuel m case later → Joins catalog m later ⊎ Heads catalog m later
step_does catalog fuel m later (DxeFires note sweep frame below) e step =
    inl (subst (Joins catalog m) (sym step) (either_joins catalog m (nat_le 64 (length m.frames)) (record m { ended = Some DxeEnds.Deep }) (protocol_begun catalog m note sweep frame below) (same catalog m _ refl refl refl) (same catalog m _ refl refl refl)))
step_does catalog fuel m later (DxeActs frame below) e step = inl (subst (Joins catalog m) (sym step) (acts_join catalog fuel m frame below))
step_does catalog fuel m later (DxeStarts next queue) e step = inr (free_heads catalog m later m.scheduled refl (starts_from catalog m m.frames next queue e).0 step)
step_does catalog fuel m later DxeStops e step = inl (subst (Joins catalog m) (sym step) (same catalog m _ refl refl refl))
