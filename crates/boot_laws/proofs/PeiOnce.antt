-- No part of PEI starts twice, but one that registered for shadow, and that one after the move.
use Rattle.std.proofs.Common.{◌≡◌, ℕ, zero, suc, ◌+◌, ◌==◌, Bool, true, false, ◌||◌, cond, List, [], ◌∷◌, ◌++◌, Option, Some, None, refl, sym, subst, ◌∙◌, nat_le, length, Ok, Err, option_and_then}
use Rattle.pi_base.specs.{declared.phase.Phase.TheVariants.Pei, Lists.Each}
use Rattle.mod_catalog.specs.{declared.catalogue.Catalog.Catalog, declared.catalogue.Part.Part, Parts.has_number, Parts.part_at}
use Rattle.boot_model.specs.declared.line.Line.TheVariants as L
use Rattle.store_model.specs.{declared.store_handle.Firing.Firing, declared.store_handle.Sweep.Sweep, Service.Service}
use Rattle.store_model.specs.{Service.Install.core_install, Service.Sweep.next_match, Service.Queue.queue_pop, Migration.migration}
use Rattle.boot_model.specs.PeiMachine.{PeiMachine, Frame, printed}
use Rattle.boot_model.specs.declared.phase_end.PeiEnd.TheVariants.{Spent, Deep}
use Rattle.boot_model.specs.Eligible.{is_eligible, may_start, may_start_again}
use Rattle.boot_model.specs.PeiChoice.{pei_order, rotated, next_peim}
use Rattle.boot_model.specs.PeiAction.{Effect, Wrote, Called, Own, Shadowed, Logged, Skipped, Returned, effect}
use Rattle.boot_model.specs.PeiStep.{PeiCase, Fires, Acts, Moves, Pops, Starts, Stops, case_of, in_case, pei_step, callback_begun, open_sweep, action_at, after_effect, core_called, started_part}
use Rattle.boot_model.specs.PeiRun.{pei_run, pei_opening}
use Rattle.boot_model.specs.Licence.{AreStartedOnce, StartedOnce, StartsAtMostOnce}
use Rattle.boot_laws.proofs.ActionMoved.{EffectKeeps, effect_keeps as action_keeps}
use Rattle.boot_laws.proofs.StoreMoved.{KeepsMoved, core_moved}
use Rattle.boot_laws.proofs.PeiCases.{migrated_is, moves_from, popped_is, pops_from}
use Rattle.boot_model.proofs.ListFacts.{each_more, has_later, found_passes}
use Rattle.boot_laws.proofs.PeiStarts.{starts_from, second_start, any_of_both}

fired_keeps : (catalog : Catalog) (m : PeiMachine) (firing : Firing) (sweep : Sweep) (deep : Bool) → StartedOnce m → StartedOnce (cond deep (record m { ended = Some Deep }) (callback_begun catalog m firing sweep))
fired_keeps catalog m firing sweep true h = h
fired_keeps catalog m firing sweep false h = h

or_true : (a b : Bool) → a ≡ true → (a || b) ≡ true
or_true a b e = cc

-- whoever is registered stays so
registered : (shadows : List ℕ) (number other : ℕ) → has_number shadows other ≡ true → has_number (shadows ++ number ∷ []) other ≡ true
registered shadows number other h = any_of_both (λ n. n == other) shadows (number ∷ []) ∙ or_true _ _ h

all_registered : (shadows : List ℕ) (number : ℕ) (again : List ℕ) → Each (λ n. has_number shadows n ≡ true) again → Each (λ n. has_number (shadows ++ number ∷ []) n ≡ true) again
all_registered shadows number again h = each_more (λ n. has_number shadows n ≡ true) (λ n. has_number (shadows ++ number ∷ []) n ≡ true) again (registered shadows number) h

-- a module registers, whether it had before or not
shadow_keeps : (before : Bool) (one other : PeiMachine) → StartedOnce one → StartedOnce other → StartedOnce (cond before one other)
shadow_keeps true one other h k = h
shadow_keeps false one other h k = k

-- where the store is moved exactly where it was
as_moved : (started again shadows : List ℕ) (old new : Bool) → new ≡ old → AreStartedOnce started again shadows old → AreStartedOnce started again shadows new
as_moved started again shadows old new same h = subst (λ moved. AreStartedOnce started again shadows moved) (sym same) h

effect_keeps : (catalog : Catalog) (m : PeiMachine) (frame : Frame) (below : List Frame) (e : Effect) → EffectKeeps m.store e → StartedOnce m → StartedOnce (after_effect catalog m frame below e)
effect_keeps catalog m frame below (Wrote registers status) keeps h = h
effect_keeps catalog m frame below (Called name reply) keeps h = as_moved m.started m.again m.shadows m.store.moved reply.store.moved keeps h
effect_keeps catalog m frame below (Own Shadowed) keeps h =
    shadow_keeps (has_number m.shadows frame.module_number) _ _ h (record {
      first = h.first;
      second = h.second;
      before = h.before;
      shadowed = all_registered m.shadows frame.module_number m.again h.shadowed;
      after = h.after;
    })
effect_keeps catalog m frame below (Logged text) keeps h = h
effect_keeps catalog m frame below (Skipped n) keeps h = h
effect_keeps catalog m frame below (Returned status) keeps h = h

acted_keeps : (m next : PeiMachine) (spent : Bool) → StartedOnce m → StartedOnce next → StartedOnce (cond spent (record m { ended = Some Spent }) next)
acted_keeps m next true h k = h
acted_keeps m next false h k = k

core_keeps : (m : PeiMachine) (service : Service Sweep) → KeepsMoved m.store service → StartedOnce m → StartedOnce (core_called m service)
core_keeps m (Ok done) keeps h = as_moved m.started m.again m.shadows m.store.moved done.1.moved keeps h
core_keeps m (Err fault) keeps h = h

-- one start more, by whether the part had started
with_one : (m : PeiMachine) (number : ℕ) (before : Bool) → has_number m.started number ≡ before
    → cond before (may_start_again m number) true ≡ true
    → StartedOnce m → AreStartedOnce (cond before m.started (number ∷ m.started)) (cond before (number ∷ m.again) m.again) m.shadows m.store.moved
with_one m number true e may h =
    let second : (has_number m.shadows number ≡ true) × (has_number m.again number ≡ false) × (m.store.moved ≡ true) = second_start (has_number m.shadows number) (has_number m.again number) m.store.moved may in
    record { first = h.first; second = (second.1, h.second); before = (e, h.before); shadowed = (second.0, h.shadowed); after = λ _. second.2 }
with_one m number false e may h =
    let more = each_more (λ n. has_number m.started n ≡ true) (λ n. has_number (number ∷ m.started) n ≡ true) m.again (λ n. has_later (number == n) (has_number m.started n)) h.before in
    record { first = (e, h.first); second = h.second; before = more; shadowed = h.shadowed; after = h.after }

start_keeps : (catalog : Catalog) (m : PeiMachine) (number : ℕ) (part : Option Part) → cond (has_number m.started number) (may_start_again m number) true ≡ true → StartedOnce m → StartedOnce (started_part catalog m number part)
start_keeps catalog m number None may h = h
start_keeps catalog m number (Some part) may h = with_one m number (has_number m.started number) refl may h

-- what may start a second time, where it has started
again_of : (before again first : Bool) → cond before again first ≡ true → cond before again true ≡ true
again_of true again first h = h
again_of false again first h = refl

next_may : (catalog : Catalog) (m : PeiMachine) (number : ℕ) → next_peim catalog m ≡ Some number → cond (has_number m.started number) (may_start_again m number) true ≡ true
next_may catalog m number found =
    let eligible : is_eligible catalog m number ≡ true = found_passes (is_eligible catalog m) (rotated m.cursor (pei_order catalog m.reported)) number found in
    again_of (has_number m.started number) (may_start_again m number) (may_start m.store (part_at Pei catalog number)) eligible

case_keeps : (catalog : Catalog) (fuel : ℕ) (m : PeiMachine) (case : PeiCase) → case_of catalog m ≡ case → StartedOnce m → StartedOnce (in_case catalog fuel m case)
case_keeps catalog fuel m (Fires firing sweep) e h = fired_keeps catalog m firing sweep (nat_le 64 (length m.frames)) h
case_keeps catalog fuel m (Acts frame below) e h =
    acted_keeps m _ (nat_le fuel m.actions) h (effect_keeps catalog (record m { actions = m.actions + 1 }) frame below (effect m.store frame (action_at catalog frame)) (action_keeps m.store frame (action_at catalog frame)) h)
case_keeps catalog fuel m (Moves new) e h =
    let a = option_and_then (next_match m.store) (open_sweep m m.frames) in
    let moved = moves_from m.store a m.frames (migration m.store) (queue_pop m.store) (next_peim catalog m) new (migrated_is m.store) e in
    let before : PeiMachine = record (printed m (L.Migrate m.store.base new.base ∷ [])) { store = new } in
    core_keeps before (core_install new) (core_moved new) (record { first = h.first; second = h.second; before = h.before; shadowed = h.shadowed; after = λ _. moved.0 })
case_keeps catalog fuel m (Pops firing new) e h =
    let a = option_and_then (next_match m.store) (open_sweep m m.frames) in
    let same = pops_from m.store a m.frames (migration m.store) (queue_pop m.store) (next_peim catalog m) firing new (popped_is m.store) e in
    as_moved m.started m.again m.shadows m.store.moved new.moved same.1 h
case_keeps catalog fuel m (Starts number) e h = start_keeps catalog m number (part_at Pei catalog number) (next_may catalog m number (starts_from _ m.frames _ _ (next_peim catalog m) number e)) h
case_keeps catalog fuel m Stops e h = h

-- a run from a machine of which it holds
run_keeps : (catalog : Catalog) (fuel n : ℕ) (m : PeiMachine) → StartedOnce m → StartedOnce (pei_run catalog fuel n m)
run_keeps catalog fuel zero m h = h
run_keeps catalog fuel (suc n) m h =
    elim m.ended as (λ o. StartedOnce (elim o as (λ _. PeiMachine) [ Some end ↦ m | None ↦ pei_run catalog fuel n (pei_step catalog fuel m) ]))
    [ Some end ↦ h | None ↦ run_keeps catalog fuel n (pei_step catalog fuel m) (case_keeps catalog fuel m (case_of catalog m) refl h) ]

pub starts_once : StartsAtMostOnce
starts_once catalog fuel n board = run_keeps catalog fuel n (pei_opening board catalog) (record { first = tt; second = tt; before = tt; shadowed = tt; after = λ some. absurd (some refl) })
