-- Each machine of a run of PEI has its facts: the opening has them, and each step keeps them.
use Rattle.std.proofs.Common.{◌≡◌, ℕ, zero, suc, ◌+◌, ◌<◌, ◌^◌, Bool, true, false, cond, List, [], ◌∷◌, length, replicate, subst, refl, Option, Some, None, Ok, Err, nat_le, IfSome, slice_set, option_and_then}
use Rattle.pi_base.specs.{declared.phase.Phase.TheVariants.Pei, declared.phase.Phase.TheVariants.Pei as InPei, Lists.Each}
use Rattle.act_code.specs.declared.action.Action.{Action}
use Rattle.mod_catalog.specs.{declared.catalogue.Catalog.Catalog, declared.catalogue.Part.Part, Parts.has_number, Parts.part_at}
use Rattle.mod_catalog.specs.WellFormed.{IsWellFormed}
use Rattle.store_model.specs.{declared.store_handle.Firing.Firing, declared.store_handle.Sweep.Sweep, StoreState.StoreState}
use Rattle.store_model.specs.{StateFacts.IsStoreState, Service.Service, Service.Sweep.next_match, Service.Queue.queue_pop}
use Rattle.store_model.specs.{Service.Install.core_install, Migration.migration}
use Rattle.store_laws.specs.Keeping.{Keeps}
use Rattle.boot_model.specs.declared.frame.Register.TheVariants.{Empty, Number, DescriptorIn}
use Rattle.boot_model.specs.declared.line.Line.TheVariants as L
use Rattle.boot_model.specs.{declared.phase_end.PeiEnd.TheVariants.Spent, declared.phase_end.PeiEnd.TheVariants.Deep, PeiChoice.next_peim}
use Rattle.boot_model.specs.PeiMachine.{PeiMachine, Frame, no_registers, printed}
use Rattle.boot_model.specs.PeiAction.{Effect, Wrote, Called, Own, Shadowed, Logged, Skipped, Returned, effect}
use Rattle.boot_model.specs.PeiStep.{PeiCase, Fires, Acts, Moves, Pops, Starts, Stops, case_of, in_case, pei_step, callback_begun, notification_frame, swept, open_sweep, action_at, after_effect, core_called, started_part, start_frames}
use Rattle.boot_model.specs.PeiRun.{pei_run, pei_opening}
use Rattle.boot_laws.specs.RunFacts.{FitRegisters, HasFacts, OpeningHasFacts, StepHasFacts, RunHasFacts}
use Rattle.boot_laws.proofs.{StoreLaws.StoreLaws, PeiCases.cases, Firings.pop_sound, Openings.opening_is_sound, Standing.to_parts}
use Rattle.boot_model.proofs.ScriptActions.{taken_action}
use Rattle.boot_laws.proofs.EffectFacts.{FitsAfter, action_fits, set_fits}
use Rattle.boot_laws.proofs.SoundSteps.{steps_keep_sound, fires_with, acts_with, pops_with, open_within, open_matched}

abbrev FitFrame : Frame → Type 0
FitFrame frame = FitRegisters frame.registers

-- a store with its facts, and numbers in the frames' registers that fit
pub record Fits (s : StoreState) (frames : List Frame) : Type 0 where
  pub store : IsStoreState s
  pub numbers : Each FitFrame frames

abbrev AreFit : PeiMachine → Type 0
AreFit m = Fits m.store m.frames

either_fits : (b : Bool) (one other : PeiMachine) → AreFit one → AreFit other → AreFit (cond b one other)
either_fits true one other h k = h
either_fits false one other h k = k

-- a frame that begins
empty_fits : (n : ℕ) → FitRegisters (replicate n Empty)
empty_fits zero = tt
empty_fits (suc n) = (tt, empty_fits n)

fresh_fits : FitRegisters no_registers
fresh_fits = empty_fits 16

notified_fits : (firing : Firing) → firing.value < 2 ^ 64 → FitFrame (notification_frame firing)
notified_fits firing small =
    set_fits (slice_set no_registers 0 (Number firing.value)) 1 (DescriptorIn firing.ppi) tt (set_fits no_registers 0 (Number firing.value) small fresh_fits)

start_fits : (number : ℕ) (blocks : List (List Action)) → Each FitFrame (start_frames number blocks)
start_fits number [] = tt
start_fits number (block ∷ blocks) = (fresh_fits, tt)

swept_fits : (frames : List Frame) (sweep : Sweep) → Each FitFrame frames → Each FitFrame (swept frames sweep)
swept_fits [] sweep each = tt
swept_fits (frame ∷ below) sweep each = each

-- after an action
effect_fits : (catalog : Catalog) (m : PeiMachine) (frame : Frame) (below : List Frame) (does : Effect) → IsStoreState m.store → FitFrame frame → Each FitFrame below → FitsAfter does
    → AreFit (after_effect catalog m frame below does)
effect_fits catalog m frame below (Wrote registers status) facts own each fits = record { store = facts; numbers = (fits, each) }
effect_fits catalog m frame below (Called name reply) facts own each fits = record { store = fits.store; numbers = (fits.registers, each) }
effect_fits catalog m frame below (Own Shadowed) facts own each fits =
    either_fits (has_number m.shadows frame.module_number) _ _ (record { store = facts; numbers = (own, each) }) (record { store = facts; numbers = (own, each) })
effect_fits catalog m frame below (Logged text) facts own each fits = record { store = facts; numbers = (own, each) }
effect_fits catalog m frame below (Skipped n) facts own each fits = record { store = facts; numbers = (own, each) }
effect_fits catalog m frame below (Returned status) facts own each fits = record { store = facts; numbers = each }

-- after the move and the core's call
core_fits : (m : PeiMachine) (service : Service Sweep) → AreFit m → Keeps service → AreFit (core_called m service)
core_fits m (Ok (sweep, new)) fit keeps = record { store = keeps; numbers = fit.numbers }
core_fits m (Err fault) fit keeps = fit

part_fits : (catalog : Catalog) (m : PeiMachine) (number : ℕ) (part : Option Part) → AreFit m → AreFit (started_part catalog m number part)
part_fits catalog m number None fit = fit
part_fits catalog m number (Some part) fit = record { store = fit.store; numbers = start_fits number part.script.blocks }

-- what moves is the store that is due, and what leaves the queue leaves the first state behind it
moves_with : (a : Option (Firing × Sweep)) (frames : List Frame) (c : Option StoreState) (d : Option (Firing × StoreState)) (e : Option ℕ) (new : StoreState) → IfSome c IsStoreState
    → cases a frames c d e ≡ Moves new → IsStoreState new
moves_with (Some a) frames c d e new is h = cc
moves_with None (frame ∷ below) c d e new is h = cc
moves_with None [] (Some c) d e new is h = let same : c ≡ new = cc in subst IsStoreState same is
moves_with None [] None (Some d) e new is h = cc
moves_with None [] None None (Some e) new is h = cc
moves_with None [] None None None new is h = cc

popped_with : (a : Option (Firing × Sweep)) (frames : List Frame) (c : Option StoreState) (d : Option (Firing × StoreState)) (e : Option ℕ) (firing : Firing) (new : StoreState)
    → IfSome d (λ told. IsStoreState told.1) → cases a frames c d e ≡ Pops firing new → IsStoreState new
popped_with (Some a) frames c d e firing new is h = cc
popped_with None (frame ∷ below) c d e firing new is h = cc
popped_with None [] (Some c) d e firing new is h = cc
popped_with None [] None (Some pair) e firing new is h = let same : pair.1 ≡ new = cc in subst IsStoreState same is
popped_with None [] None None (Some e) firing new is h = cc
popped_with None [] None None None firing new is h = cc

case_fits : StoreLaws → (catalog : Catalog) (fuel : ℕ) (m : PeiMachine) (case : PeiCase) → case_of catalog m ≡ case → IsWellFormed catalog → HasFacts m → AreFit (in_case catalog fuel m case)
case_fits laws catalog fuel m (Fires firing sweep) e well has =
    let matched = open_matched m.store (open_sweep m m.frames) has.store (open_within m m.frames (to_parts m m.frames refl has.sound)) in
    let fires = fires_with m.store _ m.frames (migration m.store) (queue_pop m.store) (next_peim catalog m) firing sweep matched e in
    either_fits (nat_le 64 (length m.frames)) (record m { ended = Some Deep }) (callback_begun catalog m firing sweep) (record { store = has.store; numbers = has.numbers })
    (record { store = has.store; numbers = (notified_fits firing fires.0.value, swept_fits m.frames sweep has.numbers) })
case_fits laws catalog fuel m (Acts frame below) e well has =
    let stand : m.frames ≡ frame ∷ below = acts_with (option_and_then (next_match m.store) (open_sweep m m.frames)) m.frames (migration m.store) (queue_pop m.store) (next_peim catalog m) frame below e in
    let parts = to_parts m (frame ∷ below) stand has.sound in
    let numbers : Each FitFrame (frame ∷ below) = subst (λ frames. Each FitFrame frames) stand has.numbers in
    let action = action_at catalog frame in
    either_fits (nat_le fuel m.actions) (record m { ended = Some Spent }) _ (record { store = has.store; numbers = has.numbers })
    (effect_fits catalog (record m { actions = m.actions + 1 }) frame below (effect m.store frame action) has.store numbers.0 numbers.1
    (action_fits laws m.store frame action has.store parts.held.0 numbers.0 parts.modules.0 (taken_action InPei catalog frame.module_number frame.block frame.position well)))
case_fits laws catalog fuel m (Moves new) e well has =
    let moved = moves_with (option_and_then (next_match m.store) (open_sweep m m.frames)) m.frames (migration m.store) (queue_pop m.store) (next_peim catalog m) new (laws.keep.move m.store has.store) e in
    core_fits (record (printed m (L.Migrate m.store.base new.base ∷ [])) { store = new }) (core_install new) (record { store = moved; numbers = has.numbers }) (laws.keep.core_install new moved)
case_fits laws catalog fuel m (Pops firing new) e well has =
    let a = option_and_then (next_match m.store) (open_sweep m m.frames) in
    let popped = popped_with a m.frames (migration m.store) (queue_pop m.store) (next_peim catalog m) firing new (laws.keep.queue_pop m.store has.store) e in
    let is = pops_with a m.frames (migration m.store) (queue_pop m.store) (next_peim catalog m) firing new (pop_sound m.store has.store) e in
    record { store = popped; numbers = (notified_fits firing is.value, tt) }
case_fits laws catalog fuel m (Starts number) e well has = part_fits catalog m number (part_at Pei catalog number) (record { store = has.store; numbers = has.numbers })
case_fits laws catalog fuel m Stops e well has = record { store = has.store; numbers = has.numbers }

pub opening_has_facts : StoreLaws → OpeningHasFacts
opening_has_facts laws catalog board is = record { store = laws.keep.first board is; sound = opening_is_sound board catalog; numbers = tt }

pub step_has_facts : StoreLaws → StepHasFacts
step_has_facts laws catalog fuel m well has =
    let fit = case_fits laws catalog fuel m (case_of catalog m) refl well has in
    record { store = fit.store; sound = steps_keep_sound catalog fuel m well.few_modules has.store has.sound; numbers = fit.numbers }

-- a run from a machine that has them
run_from : StoreLaws → (catalog : Catalog) (fuel n : ℕ) (m : PeiMachine) → IsWellFormed catalog → HasFacts m → HasFacts (pei_run catalog fuel n m)
run_from laws catalog fuel zero m well has = has
run_from laws catalog fuel (suc n) m well has =
    elim m.ended as (λ o. HasFacts (elim o as (λ _. PeiMachine) [ Some end ↦ m | None ↦ pei_run catalog fuel n (pei_step catalog fuel m) ]))
    [ Some end ↦ has | None ↦ run_from laws catalog fuel n (pei_step catalog fuel m) well (step_has_facts laws catalog fuel m well has) ]

pub run_has_facts : StoreLaws → RunHasFacts
run_has_facts laws catalog board well is fuel n = run_from laws catalog fuel n (pei_opening board catalog) well (opening_has_facts laws catalog board is)
