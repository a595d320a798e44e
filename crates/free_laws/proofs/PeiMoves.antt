-- Each machine of a free run of PEI has its facts, so the move changes nothing else.
use Rattle.std.proofs.Common.{◌≡◌, ℕ, zero, suc, List, [], ◌∷◌, Option, Some, None, refl, sym, ap, subst, ◌∙◌, replicate, option_and_then}
use Rattle.pi_base.specs.{declared.phase.Phase.TheVariants.Pei, Lists.Each}
use Rattle.act_code.specs.declared.action.Action.{Action}
use Rattle.mod_catalog.specs.{declared.catalogue.Catalog.Catalog, declared.catalogue.Part.Part, Parts.part_at, WellFormed.IsWellFormed}
use Rattle.store_model.specs.{declared.store_handle.Firing.Firing, declared.store_handle.Sweep.Sweep, StoreState.StoreState}
use Rattle.store_model.specs.{StateFacts.IsStoreState, Service.Sweep.next_match, Service.Queue.queue_pop, Migration.migration}
use Rattle.boot_model.specs.{declared.frame.Register.TheVariants.Empty, FreeRun.IsFreeIn, FreeRun.IsFreePeiRun, Licence.MovesUnchanged}
use Rattle.boot_model.specs.{MachineFacts.IsSound, PeiChoice.next_peim, PeiMachine.PeiMachine, PeiMachine.Frame, PeiRun.pei_opening}
use Rattle.boot_model.specs.PeiStep.{PeiCase, Fires, Acts, Moves, Pops, Starts, Stops, case_of, in_case, open_sweep, pei_step, start_frames, started_part}
use Rattle.boot_laws.specs.{Moves.MovesChangeNothing, SoundRuns.StartsKeepSound}
use Rattle.boot_laws.specs.RunFacts.{FitRegisters, HasFacts, OpeningHasFacts, StepHasFacts}
use Rattle.boot_laws.proofs.PeiCases.{cases}
use Rattle.free_laws.specs.FreePei.{EachStep, FreeMovesChangeNothing}

-- what holds of each step of the machine itself
pub record Laws : Type 0 where
  pub opening : OpeningHasFacts
  pub step : StepHasFacts
  pub start : StartsKeepSound
  pub moves : MovesChangeNothing

-- a script that begins has empty registers
empty_fit : (n : ℕ) → FitRegisters (replicate n Empty)
empty_fit zero = tt
empty_fit (suc n) = (tt, empty_fit n)

start_fits : (number : ℕ) (blocks : List (List Action)) → Each (λ (frame : Frame). FitRegisters frame.registers) (start_frames number blocks)
start_fits number [] = tt
start_fits number (block ∷ blocks) = (empty_fit 16, tt)

part_facts : (catalog : Catalog) (m : PeiMachine) (number : ℕ) (part : Option Part) → HasFacts m → IsSound (started_part catalog m number part) → HasFacts (started_part catalog m number part)
part_facts catalog m number None has sound = has
part_facts catalog m number (Some part) has sound = record { store = has.store; sound = sound; numbers = start_fits number part.script.blocks }

own_facts : Laws → (catalog : Catalog) (fuel : ℕ) (m later : PeiMachine) (case : PeiCase) → case_of catalog m ≡ case → IsWellFormed catalog → HasFacts m → later ≡ in_case catalog fuel m case → HasFacts later
own_facts laws catalog fuel m later case e well has is =
    let same : later ≡ pei_step catalog fuel m = is ∙ ap (in_case catalog fuel m) (sym e) in subst HasFacts (sym same) (laws.step catalog fuel m well has)

-- each free step keeps them
step_facts : Laws → (catalog : Catalog) (fuel : ℕ) (m later : PeiMachine) (case : PeiCase) → case_of catalog m ≡ case → IsWellFormed catalog → HasFacts m → IsFreeIn catalog fuel m case later → HasFacts later
step_facts laws catalog fuel m later (Fires firing sweep) e well has step = own_facts laws catalog fuel m later (Fires firing sweep) e well has step
step_facts laws catalog fuel m later (Acts frame below) e well has step = own_facts laws catalog fuel m later (Acts frame below) e well has step
step_facts laws catalog fuel m later (Moves new) e well has step = own_facts laws catalog fuel m later (Moves new) e well has step
step_facts laws catalog fuel m later (Pops firing new) e well has step = own_facts laws catalog fuel m later (Pops firing new) e well has step
step_facts laws catalog fuel m later (Starts first) e well has step =
    subst HasFacts (sym step.2) (part_facts catalog m step.0 (part_at Pei catalog step.0) has (laws.start catalog m step.0 well.few_modules has.sound))
step_facts laws catalog fuel m later Stops e well has step = own_facts laws catalog fuel m later Stops e well has step

-- what moves is the store that is due
moves_from : (a : Option (Firing × Sweep)) (frames : List Frame) (c : Option StoreState) (d : Option (Firing × StoreState)) (e : Option ℕ) (new : StoreState) → cases a frames c d e ≡ Moves new → c ≡ Some new
moves_from (Some a) frames c d e new h = cc
moves_from None (frame ∷ below) c d e new h = cc
moves_from None [] (Some c) d e new h = cc
moves_from None [] None (Some d) e new h = cc
moves_from None [] None None (Some e) new h = cc
moves_from None [] None None None new h = cc

unchanged : Laws → (catalog : Catalog) (m : PeiMachine) → IsStoreState m.store → MovesUnchanged catalog m
unchanged laws catalog m store new moves =
    laws.moves m.store new store (moves_from (option_and_then (next_match m.store) (open_sweep m m.frames)) m.frames (migration m.store) (queue_pop m.store) (next_peim catalog m) new moves)

run_moves : Laws → (catalog : Catalog) (fuel : ℕ) (m : PeiMachine) (run : List PeiMachine) → IsWellFormed catalog → HasFacts m → IsFreePeiRun catalog fuel m run → EachStep (λ m later. MovesUnchanged catalog m) m run
run_moves laws catalog fuel m [] well has goes = tt
run_moves laws catalog fuel m (later ∷ rest) well has goes =
    (unchanged laws catalog m has.store, run_moves laws catalog fuel later rest well (step_facts laws catalog fuel m later (case_of catalog m) refl well has goes.1) goes.2)

pub moves_nothing : Laws → FreeMovesChangeNothing
moves_nothing laws board catalog fuel run well sound goes = run_moves laws catalog fuel (pei_opening board catalog) run well (laws.opening catalog board sound) goes
