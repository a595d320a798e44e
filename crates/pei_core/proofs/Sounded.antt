-- A step leaves a machine that is sound, and in which only modules that have started run scripts.
use Rattle.std.proofs.Common.{◌≡◌, ℕ, Bool, true, Option, Some, None, Result, Ok, Err, refl, ap, ◌∙◌, unwrap_or}
use Rattle.pi_base.specs.{declared.phase.Phase.TheVariants.Pei, declared.word.Word.TheVariants.Success}
use Rattle.boot_io.specs.declared.halt.Halt.{Halt}
use Rattle.boot_io.specs.declared.halt.Halt.TheVariants as H
use Rattle.act_code.specs.{declared.action.Action.Action, declared.action.Action.TheVariants.Ret, Index.is_indexed}
use Rattle.mod_catalog.specs.{declared.catalogue.Catalog.Catalog, WellFormed.IsWellFormed}
use Rattle.store_model.specs.StoreState.{StoreState}
use Rattle.boot_model.specs.{MachineFacts.IsSound, PeiMachine.Frame, PeiMachine.PeiMachine, PeiStep.action_at, PeiStep.pei_step}
use Rattle.phase_parts.specs.Found.{found_action}
use Rattle.phase_parts.proofs.Fitting.{found_fits}
use Rattle.pei_core.specs.{declared.event.Stepped.Stepped, declared.pei.Pei.Pei as OfPei, Standing.Has, Standing.StandsFor}
use Rattle.pei_core.specs.declared.event.Stepped.TheVariants.{Went, Idle, Ended}
use Rattle.pei_core.specs.Started.{RunsStarted}
use Rattle.pei_core.specs.Steps.{HasStayed, HasStepped, StepsTo}
use Rattle.boot_trace.specs.Printing.{Texts}
use Rattle.pei_core.proofs.Acting.{found}

-- an action of a script names blocks below 64
named_by : (catalog : Catalog) (frame : Frame) (action : Option Action) → IsWellFormed catalog → found_action Pei catalog frame ≡ action → is_indexed 64 (unwrap_or action (Ret Success)) ≡ true
named_by catalog frame None well e = refl
named_by catalog frame (Some action) well e = (found_fits Pei catalog frame action well e).fits.script.indexed

pub names_are : (catalog : Catalog) → IsWellFormed catalog → (frame : Frame) → is_indexed 64 (action_at catalog frame) ≡ true
names_are catalog well frame = ap (is_indexed 64) (found catalog frame) ∙ named_by catalog frame (found_action Pei catalog frame) well refl

stands : {M : Type 0} (stands_for : M → StoreState → Type 0) (pei : OfPei M) (m : PeiMachine) → IsSound m → RunsStarted m → Has stands_for pei m → StandsFor stands_for pei m
stands stands_for pei m sound started has = record { has = has; sound = sound; started = started }

stepped : {M : Type 0} (stands_for : M → StoreState → Type 0) (pei : OfPei M) (m later : PeiMachine) (t : Texts) → IsSound later → RunsStarted later → HasStepped (Has stands_for pei) m later t → HasStepped (StandsFor stands_for pei) m later t
stepped stands_for pei m later t sound started h = record { printed = h.printed; machine = stands stands_for pei later sound started h.machine }

stayed : {M : Type 0} (stands_for : M → StoreState → Type 0) (pei : OfPei M) (m : PeiMachine) (t : Texts) → IsSound m → RunsStarted m → HasStayed (Has stands_for pei) m t → HasStayed (StandsFor stands_for pei) m t
stayed stands_for pei m t sound started h = record { text = h.text; machine = stands stands_for pei m sound started h.machine }

pub steps_sound : (result : Result Stepped Halt) {M : Type 0} (memory : Bool) (stands_for : M → StoreState → Type 0) (pei : OfPei M) (catalog : Catalog) (fuel : ℕ) (m : PeiMachine) (t : Texts)
    → IsSound m → RunsStarted m → IsSound (pei_step catalog fuel m) → RunsStarted (pei_step catalog fuel m)
    → StepsTo memory (Has stands_for pei) catalog fuel m t result → StepsTo memory (StandsFor stands_for pei) catalog fuel m t result
steps_sound (Ok (Went event)) memory stands_for pei catalog fuel m t sound started after runs h = (h.0, h.1, stepped stands_for pei m (pei_step catalog fuel m) t after runs h.2)
steps_sound (Ok Idle) memory stands_for pei catalog fuel m t sound started after runs h = (h.0, stayed stands_for pei m t sound started h.1)
steps_sound (Ok (Ended end)) memory stands_for pei catalog fuel m t sound started after runs h = record { cut = h.cut; ended = h.ended; stayed = stayed stands_for pei m t sound started h.stayed }
steps_sound (Err H.Sink) memory stands_for pei catalog fuel m t sound started after runs h = h
steps_sound (Err H.Memory) memory stands_for pei catalog fuel m t sound started after runs h = h
