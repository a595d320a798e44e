-- A run of DXE ends.
use Rattle.std.proofs.Common.{◌≡◌, ℕ, zero, suc, ◌+◌, ◌≤◌, ◌<◌, Bool, true, false, cond, List, [], ◌∷◌, Option, Some, None, refl, ap, subst, nat_le, length, arith, is_some, option_and_then}
use Rattle.pi_base.specs.declared.phase.Phase.TheVariants.{Dxe}
use Rattle.act_code.specs.declared.action.Action.{Action}
use Rattle.mod_catalog.specs.{declared.catalogue.Catalog.Catalog, declared.catalogue.Part.Part, WellFormed.AreNumbered, Parts.part_at}
use Rattle.boot_model.specs.{DxeMachine.DriverFrame, DxeMachine.DxeMachine, declared.driver.Scheduled.Scheduled}
use Rattle.boot_model.specs.declared.phase_end.DxeEnd.TheVariants as DxeEnds
use Rattle.boot_model.specs.DxeAction.{DxeEffect, Wrote, Called, Logged, Skipped, Returned, Own, dxe_effect}
use Rattle.boot_model.specs.DxeStep.{DxeCase, DxeFires, DxeActs, DxeStarts, DxeStops, dxe_case_of, in_dxe_case, dxe_step, next_note, protocol_begun, after_dxe_effect, with_action, dxe_action_at, driver_started, start_frames}
use Rattle.boot_model.specs.DxeRun.{dxe_run, dxe_opening, dxe_bound}
use Rattle.boot_laws.specs.RunsEnd.{DxeRunsEnd}
use Rattle.boot_laws.proofs.{Counting.missing_most, DxeCases.fires_from, DxeCases.acts_from, DxeOnce.case_queued, DxeOnce.opens_queued}
use Rattle.boot_laws.proofs.DxeSteps.{SweepsAreLater, IsUnderWay, steps_left, steps_run_out}

not_begun : {A B : Type 0} (f : A → Option B) (n : ℕ) (o : Option A) → (n ≡ 0 → o ≡ None) → is_some (option_and_then f o) ≡ true → n ≡ 0 → ⊥
not_begun f n None h k z = cc
not_begun f n (Some a) h k z = let e : Some a ≡ None = h z in cc

not_zero : {P : Type 0} (a n : ℕ) → a + 1 + n ≡ 0 → P
not_zero a n h = absurd (omega (arith, h))

either_later : (b : Bool) (one other : DxeMachine) → SweepsAreLater one.frames → SweepsAreLater other.frames → SweepsAreLater (cond b one other).frames
either_later true one other h k = h
either_later false one other h k = k

effect_later : (m : DxeMachine) (frame : DriverFrame) (below : List DriverFrame) (e : DxeEffect) → SweepsAreLater below → SweepsAreLater (after_dxe_effect m frame below e).frames
effect_later m frame below (Wrote registers status) h = (not_zero frame.position 0, h)
effect_later m frame below (Called name reply) h = (not_zero frame.position 0, h)
effect_later m frame below (Logged text) h = (not_zero frame.position 0, h)
effect_later m frame below (Skipped n) h = (not_zero frame.position n, h)
effect_later m frame below (Returned status) h = h
effect_later m frame below (Own own) h = absurd own

frames_later : (number : ℕ) (blocks : List (List Action)) → SweepsAreLater (start_frames number blocks)
frames_later number [] = tt
frames_later number (block ∷ blocks) = ((λ _. refl), tt)

pub start_later : (catalog : Catalog) (m : DxeMachine) (next : Scheduled) (queue : List Scheduled) (part : Option Part) → SweepsAreLater m.frames → SweepsAreLater (driver_started catalog m next queue part).frames
start_later catalog m next queue None h = h
start_later catalog m next queue (Some part) h = frames_later next.module_number part.script.blocks

pub case_later : (catalog : Catalog) (fuel : ℕ) (m : DxeMachine) (case : DxeCase) → dxe_case_of catalog m ≡ case → SweepsAreLater m.frames → SweepsAreLater (in_dxe_case catalog fuel m case).frames
case_later catalog fuel m (DxeFires note sweep frame below) e h =
    let k = fires_from catalog m m.frames note sweep frame below e in
    let later : SweepsAreLater (frame ∷ below) = subst SweepsAreLater k.0 h in
    either_later (nat_le 64 (length m.frames)) (record m { ended = Some DxeEnds.Deep }) (protocol_begun catalog m note sweep frame below) h
    ((λ _. refl), ((λ z. absurd (not_begun (next_note m) frame.position frame.sweep later.0 k.1 z)), later.1))
case_later catalog fuel m (DxeActs frame below) e h =
    let later : SweepsAreLater (frame ∷ below) = subst SweepsAreLater (acts_from catalog m m.frames frame below e) h in
    let does : DxeEffect = dxe_effect catalog (with_action m) frame (dxe_action_at catalog frame) in
    either_later (nat_le fuel m.actions) (record m { ended = Some DxeEnds.Spent }) (after_dxe_effect (with_action m) frame below does) h (effect_later (with_action m) frame below does later.1)
case_later catalog fuel m (DxeStarts next queue) e h = start_later catalog m next queue (part_at Dxe catalog next.module_number) h
case_later catalog fuel m DxeStops e h = h

pub step_way : (catalog : Catalog) (fuel : ℕ) (m : DxeMachine) → AreNumbered 0 catalog.volumes → IsUnderWay catalog m → IsUnderWay catalog (dxe_step catalog fuel m)
step_way catalog fuel m numbered way =
    record { sweeps = case_later catalog fuel m (dxe_case_of catalog m) refl way.sweeps; queued = case_queued catalog fuel m (dxe_case_of catalog m) numbered refl way.queued }

-- with no step left it has ended
pub none_left : (catalog : Catalog) (fuel : ℕ) (m : DxeMachine) → IsUnderWay catalog m → steps_left catalog fuel m ≤ 0 → is_some m.ended ≡ true
none_left catalog fuel m way h =
    elim m.ended as (λ o. m.ended ≡ o → is_some o ≡ true) [
      | Some end ↦ λ _. refl
      | None ↦ λ going.
          let less : steps_left catalog fuel (dxe_step catalog fuel m) < steps_left catalog fuel m = steps_run_out catalog fuel m going way in absurd (omega (arith, less, h))
    ] refl

pub ends_on : (catalog : Catalog) (fuel n : ℕ) (m : DxeMachine) → AreNumbered 0 catalog.volumes → IsUnderWay catalog m → steps_left catalog fuel m ≤ n → is_some (dxe_run catalog fuel n m).ended ≡ true
ends_on catalog fuel zero m numbered way le = none_left catalog fuel m way le
ends_on catalog fuel (suc n) m numbered way le =
    elim m.ended as (λ o. m.ended ≡ o → is_some (elim o as (λ _. DxeMachine) [ Some end ↦ m | None ↦ dxe_run catalog fuel n (dxe_step catalog fuel m) ]).ended ≡ true) [
      | Some end ↦ λ is. ap is_some is
      | None ↦ λ going.
          let less : steps_left catalog fuel (dxe_step catalog fuel m) < steps_left catalog fuel m = steps_run_out catalog fuel m going way in
          ends_on catalog fuel n (dxe_step catalog fuel m) numbered (step_way catalog fuel m numbered way) (omega (arith, less, le))
    ] refl

pub runs_end : DxeRunsEnd
runs_end catalog numbered fuel s actions =
    let few = missing_most [] 0 (length catalog.modules) in
    let le : steps_left catalog fuel (dxe_opening catalog s actions) ≤ dxe_bound catalog fuel = omega (arith, few) in
    ends_on catalog fuel (dxe_bound catalog fuel) (dxe_opening catalog s actions) numbered (record { sweeps = tt; queued = opens_queued catalog s actions numbered }) le
