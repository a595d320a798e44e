-- A run of PEI ends.
use Rattle.std.proofs.Common.{◌≡◌, ℕ, zero, suc, ◌+◌, ◌≤◌, ◌<◌, Bool, true, false, cond, List, [], ◌∷◌, Option, Some, None, refl, ap, Ok, Err, nat_le, length, arith, is_some, option_and_then}
use Rattle.pi_base.specs.{declared.phase.Phase.TheVariants.Pei, Lists.Each}
use Rattle.act_code.specs.declared.action.Action.{Action}
use Rattle.mod_catalog.specs.{declared.catalogue.Catalog.Catalog, declared.catalogue.Part.Part, Parts.has_number, Parts.part_at}
use Rattle.boot_model.specs.PeiMachine.{Frame, PeiMachine, printed}
use Rattle.boot_model.specs.declared.line.Line.TheVariants as L
use Rattle.store_model.specs.{declared.store_handle.Sweep.Sweep, Service.Service, Service.Sweep.next_match, Service.Queue.queue_pop}
use Rattle.store_model.specs.{Service.Install.core_install, Migration.migration}
use Rattle.boot_model.specs.{declared.phase_end.PeiEnd.TheVariants.Spent, declared.phase_end.PeiEnd.TheVariants.Deep, PeiChoice.next_peim}
use Rattle.boot_model.specs.PeiAction.{Effect, Wrote, Called, Own, Shadowed, Logged, Skipped, Returned, effect}
use Rattle.boot_model.specs.PeiStep.{PeiCase, Fires, Acts, Moves, Pops, Starts, Stops, case_of, in_case, pei_step, callback_begun, action_at, after_effect, core_called, started_part, start_frames, open_sweep, swept}
use Rattle.boot_model.specs.PeiRun.{pei_run, pei_opening, pei_bound}
use Rattle.boot_laws.specs.RunsEnd.{PeiRunsEnd}
use Rattle.boot_laws.proofs.Counting.{missing_most}
use Rattle.boot_laws.proofs.PeiCases.{fires_from, acts_from, starts_from}
use Rattle.boot_laws.proofs.PeiSteps.{SweepsAreLater, HasPart, IsUnderWay, steps_left, steps_run_out, next_has}

-- a frame that stands at a later position may have any sweep
not_begun : {A B : Type 0} (f : A → Option B) (n : ℕ) (o : Option A) → (n ≡ 0 → o ≡ None) → is_some (option_and_then f o) ≡ true → n ≡ 0 → ⊥
not_begun f n None h k z = cc
not_begun f n (Some a) h k z = let e : Some a ≡ None = h z in cc

swept_later : (m : PeiMachine) (frames : List Frame) (sweep : Sweep) → SweepsAreLater frames → is_some (option_and_then (next_match m.store) (open_sweep m frames)) ≡ true → SweepsAreLater (swept frames sweep)
swept_later m [] sweep h k = tt
swept_later m (frame ∷ below) sweep h k = ((λ z. absurd (not_begun (next_match m.store) frame.position frame.sweep h.0 k z)), h.1)

not_zero : {P : Type 0} (a n : ℕ) → a + 1 + n ≡ 0 → P
not_zero a n h = absurd (omega (arith, h))

pub either_way : (catalog : Catalog) (b : Bool) (one other : PeiMachine) → IsUnderWay catalog one → IsUnderWay catalog other → IsUnderWay catalog (cond b one other)
either_way catalog true one other h k = h
either_way catalog false one other h k = k

effect_way : (catalog : Catalog) (m : PeiMachine) (frame : Frame) (below : List Frame) (e : Effect) → SweepsAreLater below → Each (HasPart Pei catalog) m.started → IsUnderWay catalog (after_effect catalog m frame below e)
effect_way catalog m frame below (Wrote registers status) h parts = record { sweeps = (not_zero frame.position 0, h); parts = parts }
effect_way catalog m frame below (Called name reply) h parts = record { sweeps = (not_zero frame.position 0, h); parts = parts }
effect_way catalog m frame below (Own Shadowed) h parts =
    either_way catalog (has_number m.shadows frame.module_number) _ _ (record { sweeps = (not_zero frame.position 0, h); parts = parts }) (record { sweeps = (not_zero frame.position 0, h); parts = parts })
effect_way catalog m frame below (Logged text) h parts = record { sweeps = (not_zero frame.position 0, h); parts = parts }
effect_way catalog m frame below (Skipped n) h parts = record { sweeps = (not_zero frame.position n, h); parts = parts }
effect_way catalog m frame below (Returned status) h parts = record { sweeps = h; parts = parts }

core_way : (catalog : Catalog) (m : PeiMachine) (service : Service Sweep) → IsUnderWay catalog m → IsUnderWay catalog (core_called m service)
core_way catalog m (Ok pair) h = record { sweeps = h.sweeps; parts = h.parts }
core_way catalog m (Err fault) h = record { sweeps = h.sweeps; parts = h.parts }

frames_later : (number : ℕ) (blocks : List (List Action)) → SweepsAreLater (start_frames number blocks)
frames_later number [] = tt
frames_later number (block ∷ blocks) = ((λ _. refl), tt)

one_more : (catalog : Catalog) (number : ℕ) (started : List ℕ) (before : Bool) → HasPart Pei catalog number → Each (HasPart Pei catalog) started → Each (HasPart Pei catalog) (cond before started (number ∷ started))
one_more catalog number started true h parts = parts
one_more catalog number started false h parts = (h, parts)

pub start_way : (catalog : Catalog) (m : PeiMachine) (number : ℕ) (part : Option Part) → HasPart Pei catalog number → IsUnderWay catalog m → IsUnderWay catalog (started_part catalog m number part)
start_way catalog m number None h way = way
start_way catalog m number (Some part) h way = record { sweeps = frames_later number part.script.blocks; parts = one_more catalog number m.started (has_number m.started number) h way.parts }

pub case_way : (catalog : Catalog) (fuel : ℕ) (m : PeiMachine) (case : PeiCase) → case_of catalog m ≡ case → IsUnderWay catalog m → IsUnderWay catalog (in_case catalog fuel m case)
case_way catalog fuel m (Fires firing sweep) e way =
    let k : is_some (option_and_then (next_match m.store) (open_sweep m m.frames)) ≡ true = fires_from _ m.frames (migration m.store) (queue_pop m.store) (next_peim catalog m) firing sweep e in
    either_way catalog (nat_le 64 (length m.frames)) (record m { ended = Some Deep }) (callback_begun catalog m firing sweep) (record { sweeps = way.sweeps; parts = way.parts })
    (record { sweeps = ((λ _. refl), swept_later m m.frames sweep way.sweeps k); parts = way.parts })
case_way catalog fuel m (Acts frame below) e way =
    let does : Effect = effect m.store frame (action_at catalog frame) in
    let under = acts_from SweepsAreLater (λ top rest h. h.1) (option_and_then (next_match m.store) (open_sweep m m.frames)) m.frames (migration m.store) (queue_pop m.store) (next_peim catalog m) frame below e way.sweeps in
    either_way catalog (nat_le fuel m.actions) (record m { ended = Some Spent }) _ (record { sweeps = way.sweeps; parts = way.parts }) (effect_way catalog (record m { actions = m.actions + 1 }) frame below does under way.parts)
case_way catalog fuel m (Moves new) e way = core_way catalog (record (printed m (L.Migrate m.store.base new.base ∷ [])) { store = new }) (core_install new) (record { sweeps = way.sweeps; parts = way.parts })
case_way catalog fuel m (Pops firing new) e way = record { sweeps = ((λ _. refl), tt); parts = way.parts }
case_way catalog fuel m (Starts number) e way =
    let k = starts_from (option_and_then (next_match m.store) (open_sweep m m.frames)) m.frames (migration m.store) (queue_pop m.store) (next_peim catalog m) number e in
    start_way catalog m number (part_at Pei catalog number) (next_has catalog m number way.parts k.1) way
case_way catalog fuel m Stops e way = record { sweeps = way.sweeps; parts = way.parts }

-- with no step left it has ended
pub none_left : (catalog : Catalog) (fuel : ℕ) (m : PeiMachine) → IsUnderWay catalog m → steps_left catalog fuel m ≤ 0 → is_some m.ended ≡ true
none_left catalog fuel m way h =
    elim m.ended as (λ o. m.ended ≡ o → is_some o ≡ true) [
      | Some end ↦ λ _. refl
      | None ↦ λ going.
          let less : steps_left catalog fuel (pei_step catalog fuel m) < steps_left catalog fuel m = steps_run_out catalog fuel m going way in absurd (omega (arith, less, h))
    ] refl

pub ends_on : (catalog : Catalog) (fuel n : ℕ) (m : PeiMachine) → IsUnderWay catalog m → steps_left catalog fuel m ≤ n → is_some (pei_run catalog fuel n m).ended ≡ true
ends_on catalog fuel zero m way le = none_left catalog fuel m way le
ends_on catalog fuel (suc n) m way le =
    elim m.ended as (λ o. m.ended ≡ o → is_some (elim o as (λ _. PeiMachine) [ Some end ↦ m | None ↦ pei_run catalog fuel n (pei_step catalog fuel m) ]).ended ≡ true) [
      | Some end ↦ λ is. ap is_some is
      | None ↦ λ going.
          let less : steps_left catalog fuel (pei_step catalog fuel m) < steps_left catalog fuel m = steps_run_out catalog fuel m going way in
          ends_on catalog fuel n (pei_step catalog fuel m) (case_way catalog fuel m (case_of catalog m) refl way) (omega (arith, less, le))
    ] refl

pub runs_end : PeiRunsEnd
runs_end board catalog fuel =
    let few = missing_most [] 0 (length catalog.modules) in
    let le : steps_left catalog fuel (pei_opening board catalog) ≤ pei_bound catalog fuel = omega (arith, few) in
    ends_on catalog fuel (pei_bound catalog fuel) (pei_opening board catalog) (record { sweeps = tt; parts = tt }) le
