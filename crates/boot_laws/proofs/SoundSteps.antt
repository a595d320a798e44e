-- Each case of a step keeps the machine sound.
use Rattle.std.proofs.Common.{◌≡◌, ℕ, ◌≤◌, ◌<◌, Bool, true, false, cond, List, [], ◌∷◌, length, ◌+◌, arith, sym, refl, subst, Option, Some, None, Ok, Err, nat_le, is_some, option_and_then}
use Rattle.std.proofs.lemmas.Bool.Decides.{nat_tests}
use Rattle.pi_base.specs.declared.phase.Phase.TheVariants.{Pei}
use Rattle.act_code.specs.declared.action.Action.{Action}
use Rattle.mod_catalog.specs.{declared.catalogue.Catalog.Catalog, declared.catalogue.Part.Part, declared.limits.TheConstants.MOST_MODULES}
use Rattle.boot_model.specs.PeiMachine.{Frame, PeiMachine, printed}
use Rattle.boot_model.specs.declared.line.Line.TheVariants as L
use Rattle.store_model.specs.{declared.store_handle.Firing.Firing, declared.store_handle.Sweep.Sweep, StoreState.StoreState}
use Rattle.store_model.specs.{StateFacts.IsStoreState, StateFacts.IsSweepOf, Service.Service, Service.Sweep.next_match}
use Rattle.store_model.specs.{Service.Queue.queue_pop, Service.Install.core_install, Migration.migration}
use Rattle.mod_catalog.specs.{WellFormed.part_of, Parts.has_number, Parts.part_at}
use Rattle.boot_model.specs.{declared.phase_end.PeiEnd.TheVariants.Spent, declared.phase_end.PeiEnd.TheVariants.Deep, PeiChoice.next_peim}
use Rattle.boot_model.specs.PeiAction.{Effect, Wrote, Called, Own, Shadowed, Logged, Skipped, Returned, effect}
use Rattle.boot_model.specs.PeiStep.{PeiCase, Fires, Acts, Moves, Pops, Starts, Stops, case_of, in_case, callback_begun, core_swept, open_sweep, action_at, after_effect, core_called, started_part, start_frames}
use Rattle.boot_model.proofs.ListFacts.{within}
use Rattle.boot_laws.proofs.{PeiCases.cases, Staying.action_holds, CoreSweeps.IsCoreCall, CoreSweeps.core_sound}
use Rattle.boot_model.specs.MachineFacts.{IsModuleNumber, IsSound, IsFiring}
use Rattle.boot_laws.specs.{Stay.Visits, Stay.HoldsAfter, SoundRuns.StartsKeepSound, SoundRuns.StepsKeepSound}
use Rattle.boot_laws.proofs.Firings.{IsMatched, match_sound, IsPopped, pop_sound}
use Rattle.boot_laws.proofs.Standing.{Holds, IsOfModule, Sweeps, AreSound, to_parts, of_parts, sweep_later, held_later, sweeps_later, fresh_held, notified_held, notified_module, swept_sound, swept_len}

either_sound : (b : Bool) (one other : PeiMachine) → IsSound one → (b ≡ false → IsSound other) → IsSound (cond b one other)
either_sound true one other h k = h
either_sound false one other h k = k refl

-- what the case tells
pub fires_with : (s : StoreState) (a : Option (Firing × Sweep)) (frames : List Frame) (c : Option StoreState) (d : Option (Firing × StoreState)) (e : Option ℕ) (firing : Firing) (sweep : Sweep)
    → IsMatched s a → cases a frames c d e ≡ Fires firing sweep → IsFiring s firing × IsSweepOf s sweep
fires_with s (Some pair) frames c d e firing sweep is h = let one : pair.0 ≡ firing = cc in let other : pair.1 ≡ sweep = cc in (subst (λ x. IsFiring s x) one is.0, subst (λ x. IsSweepOf s x) other is.1)
fires_with s None (frame ∷ below) c d e firing sweep is h = cc
fires_with s None [] (Some c) d e firing sweep is h = cc
fires_with s None [] None (Some d) e firing sweep is h = cc
fires_with s None [] None None (Some e) firing sweep is h = cc
fires_with s None [] None None None firing sweep is h = cc

pub acts_with : (a : Option (Firing × Sweep)) (frames : List Frame) (c : Option StoreState) (d : Option (Firing × StoreState)) (e : Option ℕ) (frame : Frame) (below : List Frame)
    → cases a frames c d e ≡ Acts frame below → frames ≡ frame ∷ below
acts_with (Some a) frames c d e frame below h = cc
acts_with None (top ∷ rest) c d e frame below h = cc
acts_with None [] (Some c) d e frame below h = cc
acts_with None [] None (Some d) e frame below h = cc
acts_with None [] None None (Some e) frame below h = cc
acts_with None [] None None None frame below h = cc

moves_with : (a : Option (Firing × Sweep)) (frames : List Frame) (c : Option StoreState) (d : Option (Firing × StoreState)) (e : Option ℕ) (new : StoreState) → cases a frames c d e ≡ Moves new → frames ≡ []
moves_with (Some a) frames c d e new h = cc
moves_with None (frame ∷ below) c d e new h = cc
moves_with None [] c d e new h = refl

pub pops_with : (a : Option (Firing × Sweep)) (frames : List Frame) (c : Option StoreState) (d : Option (Firing × StoreState)) (e : Option ℕ) (firing : Firing) (new : StoreState)
    → IsPopped d → cases a frames c d e ≡ Pops firing new → IsFiring new firing
pops_with (Some a) frames c d e firing new is h = cc
pops_with None (frame ∷ below) c d e firing new is h = cc
pops_with None [] (Some c) d e firing new is h = cc
pops_with None [] None (Some pair) e firing new is h =
    let one : pair.0 ≡ firing = cc in let other : pair.1 ≡ new = cc in subst (λ t. IsFiring t firing) other (subst (λ x. IsFiring pair.1 x) one is)
pops_with None [] None None (Some e) firing new is h = cc
pops_with None [] None None None firing new is h = cc

-- the sweep that is open
pub open_within : (m : PeiMachine) (frames : List Frame) → AreSound m.store frames m.core_sweep → Sweeps m.store (open_sweep m frames)
open_within m [] parts = parts.core
open_within m (frame ∷ below) parts = parts.sweeps.0

pub open_matched : (s : StoreState) (sweep : Option Sweep) → IsStoreState s → Sweeps s sweep → IsMatched s (option_and_then (next_match s) sweep)
open_matched s None facts is = tt
open_matched s (Some sweep) facts is = match_sound s sweep facts is

core_within : (s : StoreState) (frames : List Frame) (sweep : Sweep) (old : Option Sweep) → IsSweepOf s sweep → Sweeps s old → Sweeps s (core_swept frames sweep old)
core_within s [] sweep old is h = is
core_within s (frame ∷ below) sweep old is h = h

has_room : (n : ℕ) → nat_le 64 n ≡ false → n < 64
has_room n h = grind (arith, nat_tests)

begun_sound : (catalog : Catalog) (m : PeiMachine) (firing : Firing) (sweep : Sweep) → IsFiring m.store firing → IsSweepOf m.store sweep → IsSound m → length m.frames < 64 → IsSound (callback_begun catalog m firing sweep)
begun_sound catalog m firing sweep fires is sound room =
    let parts = swept_sound m.store m.frames m.core_sweep sweep is (to_parts m m.frames refl sound) in
    let len = swept_len m.frames sweep in
    record {
      held = (notified_held m.store firing fires, parts.held);
      modules = (notified_module m.store firing fires, parts.modules);
      sweeps = (tt, parts.sweeps);
      core_sweep = core_within m.store m.frames sweep m.core_sweep is sound.core_sweep;
      few = omega (arith, len, room);
    }

-- after an action
visits_within : (s : StoreState) (sweep : Option Sweep) (installs : List ℕ) → Visits s sweep installs → Sweeps s sweep
visits_within s None installs visits = tt
visits_within s (Some sweep) installs visits = visits.0

-- the frame behind its action, over the same state
past_sound : (m n : PeiMachine) (frame later : Frame) (below : List Frame) → AreSound m.store (frame ∷ below) m.core_sweep
    → n.store ≡ m.store → n.core_sweep ≡ m.core_sweep → n.frames ≡ later ∷ below → Holds m.store later → later.module_number ≡ frame.module_number → later.sweep ≡ None → IsSound n
past_sound m n frame later below parts store core frames held number sweep =
    let sweeps : Sweeps m.store later.sweep = subst (λ o. Sweeps m.store o) (sym sweep) tt in
    let of : IsOfModule later = subst (λ x. IsModuleNumber x) (sym number) parts.modules.0 in
    let all : AreSound m.store (later ∷ below) m.core_sweep = record { held = (held, parts.held.1); modules = (of, parts.modules.1); sweeps = (sweeps, parts.sweeps.1); core = parts.core; few = parts.few } in
    let over : AreSound n.store (later ∷ below) n.core_sweep = subst (λ s. AreSound s (later ∷ below) n.core_sweep) (sym store) (subst (λ o. AreSound m.store (later ∷ below) o) (sym core) all) in
    of_parts n (subst (λ standing. AreSound n.store standing n.core_sweep) (sym frames) over)

effect_sound : (catalog : Catalog) (m : PeiMachine) (frame : Frame) (below : List Frame) (does : Effect) → HoldsAfter m.store does → AreSound m.store (frame ∷ below) m.core_sweep → IsSound (after_effect catalog m frame below does)
effect_sound catalog m frame below (Wrote registers status) holds parts = past_sound m _ frame _ below parts refl refl refl holds refl refl
effect_sound catalog m frame below (Called name reply) holds parts =
    record {
      held = (holds.registers, held_later m.store reply.store below holds.later parts.held.1);
      modules = parts.modules;
      sweeps = (visits_within reply.store reply.sweep reply.installs holds.visits, sweeps_later m.store reply.store below holds.later parts.sweeps.1);
      core_sweep = sweep_later m.store reply.store m.core_sweep holds.later parts.core;
      few = parts.few;
    }
effect_sound catalog m frame below (Own Shadowed) holds parts =
    either_sound (has_number m.shadows frame.module_number) _ _ (past_sound m _ frame _ below parts refl refl refl parts.held.0 refl refl) (λ _. past_sound m _ frame _ below parts refl refl refl parts.held.0 refl refl)
effect_sound catalog m frame below (Logged text) holds parts = past_sound m _ frame _ below parts refl refl refl parts.held.0 refl refl
effect_sound catalog m frame below (Skipped n) holds parts = past_sound m _ frame _ below parts refl refl refl parts.held.0 refl refl
effect_sound catalog m frame below (Returned status) holds parts = record { held = parts.held.1; modules = parts.modules.1; sweeps = parts.sweeps.1; core_sweep = parts.core; few = omega (arith, parts.few) }

-- after the move no frame stands
moved_sound : (m : PeiMachine) (service : Service Sweep) → m.frames ≡ [] → IsCoreCall service → IsSound (core_called m service)
moved_sound m (Ok pair) none is = of_parts _ (subst (λ frames. AreSound pair.1 frames (Some pair.0)) (sym none) (record { held = tt; modules = tt; sweeps = tt; core = is; few = omega arith }))
moved_sound m (Err fault) none is = of_parts _ (subst (λ frames. AreSound m.store frames None) (sym none) (record { held = tt; modules = tt; sweeps = tt; core = tt; few = omega arith }))

-- a start
frames_sound : (s : StoreState) (number : ℕ) (blocks : List (List Action)) → IsModuleNumber number → AreSound s (start_frames number blocks) None
frames_sound s number [] is = record { held = tt; modules = tt; sweeps = tt; core = tt; few = omega arith }
frames_sound s number (block ∷ blocks) is = record { held = (fresh_held s, tt); modules = (is, tt); sweeps = (tt, tt); core = tt; few = omega arith }

start_sound : (catalog : Catalog) (m : PeiMachine) (number : ℕ) (part : Option Part) → (is_some part ≡ true → IsModuleNumber number) → IsSound m → IsSound (started_part catalog m number part)
start_sound catalog m number None is sound = sound
start_sound catalog m number (Some part) is sound = of_parts _ (frames_sound m.store number part.script.blocks (is refl))

pub starts_keep_sound : StartsKeepSound
starts_keep_sound catalog m number few sound =
    start_sound catalog m number (part_at Pei catalog number) (λ some. let lt = within (part_of Pei) catalog.modules number some in omega (arith, lt, few)) sound

case_sound : (catalog : Catalog) (fuel : ℕ) (m : PeiMachine) (case : PeiCase) → case_of catalog m ≡ case → length catalog.modules ≤ MOST_MODULES → IsStoreState m.store → IsSound m → IsSound (in_case catalog fuel m case)
case_sound catalog fuel m (Fires firing sweep) e few facts sound =
    let matched = open_matched m.store (open_sweep m m.frames) facts (open_within m m.frames (to_parts m m.frames refl sound)) in
    let k = fires_with m.store _ m.frames (migration m.store) (queue_pop m.store) (next_peim catalog m) firing sweep matched e in
    either_sound (nat_le 64 (length m.frames)) (record m { ended = Some Deep }) (callback_begun catalog m firing sweep) (of_parts _ (to_parts m m.frames refl sound))
    (λ h. begun_sound catalog m firing sweep k.0 k.1 sound (has_room (length m.frames) h))
case_sound catalog fuel m (Acts frame below) e few facts sound =
    let stand : m.frames ≡ frame ∷ below = acts_with (option_and_then (next_match m.store) (open_sweep m m.frames)) m.frames (migration m.store) (queue_pop m.store) (next_peim catalog m) frame below e in
    let parts = to_parts m (frame ∷ below) stand sound in
    either_sound (nat_le fuel m.actions) (record m { ended = Some Spent }) _ (of_parts _ (to_parts m m.frames refl sound))
    (λ _. effect_sound catalog (record m { actions = m.actions + 1 }) frame below (effect m.store frame (action_at catalog frame)) (action_holds m.store frame (action_at catalog frame) facts parts.held.0) parts)
case_sound catalog fuel m (Moves new) e few facts sound =
    let none : m.frames ≡ [] = moves_with (option_and_then (next_match m.store) (open_sweep m m.frames)) m.frames (migration m.store) (queue_pop m.store) (next_peim catalog m) new e in
    moved_sound (record (printed m (L.Migrate m.store.base new.base ∷ [])) { store = new }) (core_install new) none (core_sound new)
case_sound catalog fuel m (Pops firing new) e few facts sound =
    let is = pops_with (option_and_then (next_match m.store) (open_sweep m m.frames)) m.frames (migration m.store) (queue_pop m.store) (next_peim catalog m) firing new (pop_sound m.store facts) e in
    record { held = (notified_held new firing is, tt); modules = (notified_module new firing is, tt); sweeps = (tt, tt); core_sweep = tt; few = omega arith }
case_sound catalog fuel m (Starts number) e few facts sound = starts_keep_sound catalog m number few sound
case_sound catalog fuel m Stops e few facts sound = record { held = sound.held; modules = sound.modules; sweeps = sound.sweeps; core_sweep = tt; few = sound.few }

pub steps_keep_sound : StepsKeepSound
steps_keep_sound catalog fuel m few facts sound = case_sound catalog fuel m (case_of catalog m) refl few facts sound
