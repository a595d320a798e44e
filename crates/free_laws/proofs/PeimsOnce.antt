-- No PEIM starts twice in a free run, but one that registered for shadow, and that one after the move.
use Rattle.std.proofs.Common.{◌≡◌, ℕ, ◌+◌, ◌==◌, Bool, true, false, not, ◌&&◌, cond, List, [], ◌∷◌, ◌++◌, Option, Some, None, refl, sym, subst, nat_le, length, Ok, Err, option_and_then}
use Rattle.pi_base.specs.{declared.phase.Phase.TheVariants.Pei, Lists.Each}
use Rattle.mod_catalog.specs.{declared.catalogue.Catalog.Catalog, declared.catalogue.Part.Part, Parts.has_number, Parts.part_at}
use Rattle.store_model.specs.{declared.store_handle.Sweep.Sweep, Service.Service, Service.Install.core_install, Service.Sweep.next_match}
use Rattle.store_model.specs.{Service.Queue.queue_pop, Migration.migration}
use Rattle.boot_model.specs.declared.line.Line.TheVariants as L
use Rattle.boot_model.specs.declared.phase_end.PeiEnd.TheVariants.{Spent, Deep}
use Rattle.boot_model.specs.{Eligible.may_start, Eligible.may_start_again, PeiChoice.next_peim, FreeRun.IsFreeIn, FreeRun.IsFreePeiRun}
use Rattle.boot_model.specs.PeiMachine.{PeiMachine, Frame, printed}
use Rattle.boot_model.specs.PeiAction.{Effect, Wrote, Called, Own, Shadowed, Logged, Skipped, Returned, effect}
use Rattle.boot_model.specs.PeiStep.{PeiCase, Fires, Acts, Moves, Pops, Starts, Stops, case_of, in_case, callback_begun, open_sweep, action_at, after_effect, core_called, started_part}
use Rattle.boot_model.specs.Licence.{AreStartedOnce, StartedOnce}
use Rattle.boot_model.proofs.ListFacts.{each_more, has_later}
use Rattle.boot_laws.proofs.ActionMoved.{EffectKeeps, effect_keeps as action_keeps}
use Rattle.boot_laws.proofs.{StoreMoved.KeepsMoved, StoreMoved.core_moved, PeiOrders.has_front}
use Rattle.boot_laws.proofs.PeiCases.{migrated_is, moves_from, popped_is, pops_from}
use Rattle.free_laws.specs.FreePei.{FreePeimsStartOnce}

either_once : (b : Bool) (one other : PeiMachine) → StartedOnce one → StartedOnce other → StartedOnce (cond b one other)
either_once true one other h k = h
either_once false one other h k = k

-- the store is moved exactly where it was
as_moved : (started again shadows : List ℕ) (old new : Bool) → new ≡ old → AreStartedOnce started again shadows old → AreStartedOnce started again shadows new
as_moved started again shadows old new same h = subst (λ moved. AreStartedOnce started again shadows moved) (sym same) h

-- one more has registered
more_shadows : (started again shadows : List ℕ) (moved : Bool) (number : ℕ) → AreStartedOnce started again shadows moved → AreStartedOnce started again (shadows ++ number ∷ []) moved
more_shadows started again shadows moved number h = record {
  first = h.first;
  second = h.second;
  before = h.before;
  shadowed = each_more (λ n. has_number shadows n ≡ true) (λ n. has_number (shadows ++ number ∷ []) n ≡ true) again (has_front shadows (number ∷ [])) h.shadowed;
  after = h.after;
}

effect_once : (catalog : Catalog) (m : PeiMachine) (frame : Frame) (below : List Frame) (does : Effect) → EffectKeeps m.store does → StartedOnce m → StartedOnce (after_effect catalog m frame below does)
effect_once catalog m frame below (Wrote registers status) keeps h = h
effect_once catalog m frame below (Called name reply) keeps h = as_moved m.started m.again m.shadows m.store.moved reply.store.moved keeps h
effect_once catalog m frame below (Own Shadowed) keeps h =
    either_once (has_number m.shadows frame.module_number) _ _ h (more_shadows m.started m.again m.shadows m.store.moved frame.module_number h)
effect_once catalog m frame below (Logged text) keeps h = h
effect_once catalog m frame below (Skipped n) keeps h = h
effect_once catalog m frame below (Returned status) keeps h = h

core_once : (m : PeiMachine) (service : Service Sweep) → KeepsMoved m.store service → StartedOnce m → StartedOnce (core_called m service)
core_once m (Ok done) keeps h = as_moved m.started m.again m.shadows m.store.moved done.1.moved keeps h
core_once m (Err fault) keeps h = h

-- all three that a second start asks for
pub second_start : (a b c : Bool) → (a && not b && c) ≡ true → (a ≡ true) × (b ≡ false) × (c ≡ true)
second_start true false c h = (refl, refl, h)
second_start true true c h = cc
second_start false b c h = cc

-- one start more, by whether the part had started
with_one : (m : PeiMachine) (number : ℕ) (before first : Bool) → has_number m.started number ≡ before → cond before (may_start_again m number) first ≡ true → StartedOnce m
    → AreStartedOnce (cond before m.started (number ∷ m.started)) (cond before (number ∷ m.again) m.again) m.shadows m.store.moved
with_one m number true first e may h =
    let second = second_start (has_number m.shadows number) (has_number m.again number) m.store.moved may in
    record { first = h.first; second = (second.1, h.second); before = (e, h.before); shadowed = (second.0, h.shadowed); after = λ _. second.2 }
with_one m number false first e may h =
    let more = each_more (λ n. has_number m.started n ≡ true) (λ n. has_number (number ∷ m.started) n ≡ true) m.again (λ n. has_later (number == n) (has_number m.started n)) h.before in
    record { first = (e, h.first); second = h.second; before = more; shadowed = h.shadowed; after = h.after }

part_once : (catalog : Catalog) (m : PeiMachine) (number : ℕ) (part : Option Part) (first : Bool) → cond (has_number m.started number) (may_start_again m number) first ≡ true → StartedOnce m
    → StartedOnce (started_part catalog m number part)
part_once catalog m number None first may h = h
part_once catalog m number (Some part) first may h = with_one m number (has_number m.started number) first refl may h

-- each free step keeps it
own_once : (catalog : Catalog) (fuel : ℕ) (m later : PeiMachine) (case : PeiCase) → later ≡ in_case catalog fuel m case → StartedOnce (in_case catalog fuel m case) → StartedOnce later
own_once catalog fuel m later case is h = subst StartedOnce (sym is) h

step_once : (catalog : Catalog) (fuel : ℕ) (m later : PeiMachine) (case : PeiCase) → case_of catalog m ≡ case → IsFreeIn catalog fuel m case later → StartedOnce m → StartedOnce later
step_once catalog fuel m later (Fires firing sweep) e step h =
    own_once catalog fuel m later (Fires firing sweep) step (either_once (nat_le 64 (length m.frames)) (record m { ended = Some Deep }) (callback_begun catalog m firing sweep) h h)
step_once catalog fuel m later (Acts frame below) e step h =
    own_once catalog fuel m later (Acts frame below) step
    (either_once (nat_le fuel m.actions) (record m { ended = Some Spent }) _ h (effect_once catalog (record m { actions = m.actions + 1 }) frame below (effect m.store frame (action_at catalog frame)) (action_keeps m.store frame (action_at catalog frame)) h))
step_once catalog fuel m later (Moves new) e step h =
    let moved = moves_from m.store (option_and_then (next_match m.store) (open_sweep m m.frames)) m.frames (migration m.store) (queue_pop m.store) (next_peim catalog m) new (migrated_is m.store) e in
    let before : PeiMachine = record (printed m (L.Migrate m.store.base new.base ∷ [])) { store = new } in
    own_once catalog fuel m later (Moves new) step
    (core_once before (core_install new) (core_moved new) (record { first = h.first; second = h.second; before = h.before; shadowed = h.shadowed; after = λ _. moved.0 }))
step_once catalog fuel m later (Pops firing new) e step h =
    let same = pops_from m.store (option_and_then (next_match m.store) (open_sweep m m.frames)) m.frames (migration m.store) (queue_pop m.store) (next_peim catalog m) firing new (popped_is m.store) e in
    own_once catalog fuel m later (Pops firing new) step (as_moved m.started m.again m.shadows m.store.moved new.moved same.1 h)
step_once catalog fuel m later (Starts first) e step h =
    subst StartedOnce (sym step.2) (part_once catalog m step.0 (part_at Pei catalog step.0) (may_start m.store (part_at Pei catalog step.0)) step.1.1 h)
step_once catalog fuel m later Stops e step h = own_once catalog fuel m later Stops step h

run_once : (catalog : Catalog) (fuel : ℕ) (m : PeiMachine) (run : List PeiMachine) → IsFreePeiRun catalog fuel m run → StartedOnce m → Each StartedOnce run
run_once catalog fuel m [] goes h = tt
run_once catalog fuel m (later ∷ rest) goes h =
    let next : StartedOnce later = step_once catalog fuel m later (case_of catalog m) refl goes.1 h in (next, run_once catalog fuel later rest goes.2 next)

pub start_once : FreePeimsStartOnce
start_once board catalog fuel run goes =
    run_once catalog fuel _ run goes (record { first = tt; second = tt; before = tt; shadowed = tt; after = λ some. absurd (some refl) })
