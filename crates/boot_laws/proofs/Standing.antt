-- Frames over a state: a new one holds what is there, and those that stand keep what they have over a later state.
use Rattle.std.proofs.Common.{◌≡◌, ℕ, zero, suc, ◌≤◌, ◌<◌, List, [], ◌∷◌, length, replicate, arith, refl, subst, Option, Some, None, IfSome, slice_set}
use Rattle.boot_model.specs.PeiMachine.{Frame, PeiMachine, no_registers}
use Rattle.boot_model.specs.declared.frame.Register.TheVariants.{Empty, Number, DescriptorIn}
use Rattle.boot_model.specs.{declared.frame.TheConstants.MOST_FRAMES, PeiStep.notification_frame, PeiStep.swept}
use Rattle.store_model.specs.{declared.store_handle.Firing.Firing, declared.store_handle.Sweep.Sweep, StoreState.StoreState}
use Rattle.pi_base.specs.Lists.{Each}
use Rattle.store_model.specs.StateFacts.{IsSweepOf}
use Rattle.boot_model.proofs.ListFacts.{each_more}
use Rattle.boot_model.specs.MachineFacts.{HoldRegisters, IsModuleNumber, IsSound, IsFiring}
use Rattle.boot_laws.specs.{Stay.IsLater, SoundRuns.SweepsStay}
use Rattle.boot_laws.proofs.{Bodies.hold_on, Staying.set_held}

abbrev pub Holds : StoreState → Frame → Type 0
Holds s frame = HoldRegisters frame.registers s

abbrev pub IsOfModule : Frame → Type 0
IsOfModule frame = IsModuleNumber frame.module_number

abbrev pub Sweeps : StoreState → Option Sweep → Type 0
Sweeps s sweep = IfSome sweep (IsSweepOf s)

-- the facts of a machine, of its parts
pub record AreSound (s : StoreState) (frames : List Frame) (core_sweep : Option Sweep) : Type 0 where
  pub held : Each (Holds s) frames
  pub modules : Each IsOfModule frames
  pub sweeps : Each (λ frame. Sweeps s frame.sweep) frames
  pub core : Sweeps s core_sweep
  pub few : length frames ≤ MOST_FRAMES

pub to_parts : (m : PeiMachine) (frames : List Frame) → m.frames ≡ frames → IsSound m → AreSound m.store frames m.core_sweep
to_parts m frames e sound = subst (λ standing. AreSound m.store standing m.core_sweep) e (record { held = sound.held; modules = sound.modules; sweeps = sound.sweeps; core = sound.core_sweep; few = sound.few })

pub of_parts : (m : PeiMachine) → AreSound m.store m.frames m.core_sweep → IsSound m
of_parts m parts = record { held = parts.held; modules = parts.modules; sweeps = parts.sweeps; core_sweep = parts.core; few = parts.few }

-- over a later state
pub sweeps_stay : SweepsStay
sweeps_stay s new sweep later is = record { ppis = omega (arith, later.ppis, is.ppis); notes = omega (arith, later.callbacks, is.notes) }

pub sweep_later : (s t : StoreState) (sweep : Option Sweep) → IsLater s t → Sweeps s sweep → Sweeps t sweep
sweep_later s t None later is = tt
sweep_later s t (Some sweep) later is = sweeps_stay s t sweep later is

pub held_later : (s t : StoreState) (frames : List Frame) → IsLater s t → Each (Holds s) frames → Each (Holds t) frames
held_later s t frames later each = each_more (Holds s) (Holds t) frames (λ frame h. hold_on s t frame.registers later.held h) each

pub sweeps_later : (s t : StoreState) (frames : List Frame) → IsLater s t → Each (λ frame. Sweeps s frame.sweep) frames → Each (λ frame. Sweeps t frame.sweep) frames
sweeps_later s t frames later each = each_more (λ frame. Sweeps s frame.sweep) (λ frame. Sweeps t frame.sweep) frames (λ frame h. sweep_later s t frame.sweep later h) each

-- a frame that begins
empty_held : (s : StoreState) (n : ℕ) → HoldRegisters (replicate n Empty) s
empty_held s zero = tt
empty_held s (suc n) = (tt, empty_held s n)

pub fresh_held : (s : StoreState) → HoldRegisters no_registers s
fresh_held s = empty_held s 16

pub notified_held : (s : StoreState) (firing : Firing) → IsFiring s firing → Holds s (notification_frame firing)
notified_held s firing is = set_held s (slice_set no_registers 0 (Number firing.value)) 1 (DescriptorIn firing.ppi) is.ppi (set_held s no_registers 0 (Number firing.value) tt (fresh_held s))

pub notified_module : (s : StoreState) (firing : Firing) → IsFiring s firing → IsOfModule (notification_frame firing)
notified_module s firing is = let lt : firing.entry < 0x40000 = is.entry in omega (arith, lt)

-- the sweep of the top frame stands behind the pair that fires
pub swept_sound : (s : StoreState) (frames : List Frame) (core : Option Sweep) (sweep : Sweep) → IsSweepOf s sweep → AreSound s frames core → AreSound s (swept frames sweep) core
swept_sound s [] core sweep is parts = parts
swept_sound s (frame ∷ below) core sweep is parts = record { held = parts.held; modules = parts.modules; sweeps = (is, parts.sweeps.1); core = parts.core; few = parts.few }

pub swept_len : (frames : List Frame) (sweep : Sweep) → length (swept frames sweep) ≡ length frames
swept_len [] sweep = refl
swept_len (frame ∷ below) sweep = refl
