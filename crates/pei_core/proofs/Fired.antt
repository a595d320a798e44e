-- The core after a callback or a dispatch notification has begun.
use Rattle.std.proofs.Common.{◌≡◌, Bool, true, false, cond, ◌∷◌, Some, refl, ap, ◌∙◌, nat_le, not, length}
use Rattle.mod_catalog.specs.declared.catalogue.Catalog.{Catalog}
use Rattle.store_model.specs.{declared.store_handle.Firing.Firing, declared.store_handle.Sweep.Sweep, StoreState.StoreState}
use Rattle.boot_model.specs.{declared.phase_end.PeiEnd.TheVariants.Deep, PeiMachine.PeiMachine}
use Rattle.boot_model.specs.PeiStep.{fired, callback_begun, core_swept, notification_frame, popped_to, swept}
use Rattle.pei_core.specs.{declared.core_state.Core.Core, Cores.with_callback, Cores.with_notification, Standing.IsCoreOf}
use Rattle.pei_core.proofs.PeimStates.{same_states}

-- whether as many frames stand as may
fired_by : (catalog : Catalog) (m : PeiMachine) (firing : Firing) (sweep : Sweep) (b : Bool) → nat_le 64 (length m.frames) ≡ b → fired catalog m firing sweep ≡ cond b (record m { ended = Some Deep }) (callback_begun catalog m firing sweep)
fired_by catalog m firing sweep b e = ap (λ t. cond t (record m { ended = Some Deep }) (callback_begun catalog m firing sweep)) e

turned : (b : Bool) → not b ≡ true → b ≡ false
turned true e = cc
turned false e = refl

turned_back : (b : Bool) → not b ≡ false → b ≡ true
turned_back true e = refl
turned_back false e = cc

pub fired_begun : (catalog : Catalog) (m : PeiMachine) (firing : Firing) (sweep : Sweep) (core : Core) → IsCoreOf core m → not (nat_le 64 (length core.frames)) ≡ true → fired catalog m firing sweep ≡ callback_begun catalog m firing sweep
fired_begun catalog m firing sweep core of room = fired_by catalog m firing sweep false (ap (λ xs. nat_le 64 (length xs)) of.frames ∙ turned (nat_le 64 (length core.frames)) room)

pub fired_deep : (catalog : Catalog) (m : PeiMachine) (firing : Firing) (sweep : Sweep) (core : Core) → IsCoreOf core m → not (nat_le 64 (length core.frames)) ≡ false → fired catalog m firing sweep ≡ record m { ended = Some Deep }
fired_deep catalog m firing sweep core of full = fired_by catalog m firing sweep true (ap (λ xs. nat_le 64 (length xs)) of.frames ∙ turned_back (nat_le 64 (length core.frames)) full)

pub fired_core : (catalog : Catalog) (m : PeiMachine) (firing : Firing) (sweep : Sweep) (core : Core) → IsCoreOf core m → IsCoreOf (with_callback core firing sweep) (callback_begun catalog m firing sweep)
fired_core catalog m firing sweep core of = record {
  frames = ap (λ xs. notification_frame firing ∷ swept xs sweep) of.frames;
  sweep = ap (λ xs. core_swept xs sweep m.core_sweep) of.frames ∙ ap (λ o. core_swept core.frames sweep o) of.sweep;
  reported = of.reported;
  states = same_states m (callback_begun catalog m firing sweep) core.states refl refl refl of.states;
  actions = of.actions;
  starts = of.starts;
  running = of.running;
}

pub popped_core : (catalog : Catalog) (m : PeiMachine) (new : StoreState) (firing : Firing) (core : Core) → IsCoreOf core m → IsCoreOf (with_notification core firing) (popped_to catalog m firing new)
popped_core catalog m new firing core of = record {
  frames = refl;
  sweep = refl;
  reported = of.reported;
  states = same_states m (popped_to catalog m firing new) core.states refl refl refl of.states;
  actions = of.actions;
  starts = of.starts;
  running = of.running;
}
