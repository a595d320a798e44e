-- What a running machine of PEI keeps: registers hold pools and descriptors that exist, sweeps are within the lists, and frames are few and belong to modules.
-- Own.
use Rattle.std.specs.Prelude.{ℕ, ◌≤◌, ◌<◌, ◌^◌, List, length, IfSome, ⊤}
use Rattle.boot_model.specs.{declared.frame.TheConstants.MOST_FRAMES, declared.frame.Register.Register, PeiMachine.PeiMachine}
use Rattle.boot_model.specs.declared.frame.Register.TheVariants.{Empty, Number, PoolIn, DescriptorIn, HandleIn}
use Rattle.store_model.specs.{declared.store_handle.Firing.Firing, StoreState.StoreState, declared.limits.TheConstants.NOTE_NUMBERS}
use Rattle.pi_base.specs.Lists.{Each}
use Rattle.mod_catalog.specs.declared.limits.TheConstants.{MOST_MODULES}
use Rattle.store_model.specs.StateFacts.{IsDesc, IsPool, IsSweepOf}

-- what a register holds is there
abbrev pub IsHeld : StoreState → Register → Type 0
IsHeld s Empty = ⊤
IsHeld s (Number n) = ⊤
IsHeld s (PoolIn held) = IsPool s held
IsHeld s (DescriptorIn d) = IsDesc s d
IsHeld s (HandleIn handle) = ⊤

-- the same of all registers of a frame
abbrev pub HoldRegisters : List Register → StoreState → Type 0
HoldRegisters registers s = Each (IsHeld s) registers

-- how many modules there may be, of which each has so many entries
abbrev pub IsModuleNumber : ℕ → Type 0
IsModuleNumber number = number < MOST_MODULES

-- what every machine of a run of PEI keeps
pub record IsSound (m : PeiMachine) : Type 0 where
  pub held : Each (λ frame. HoldRegisters frame.registers m.store) m.frames
  pub modules : Each (λ frame. IsModuleNumber frame.module_number) m.frames
  pub sweeps : Each (λ frame. IfSome frame.sweep (IsSweepOf m.store)) m.frames
  pub core_sweep : IfSome m.core_sweep (IsSweepOf m.store)
  pub few : length m.frames ≤ MOST_FRAMES

-- a notification that begins receives a descriptor that exists and a value of 64 bits, and its entry is a block of a module
pub record IsFiring (s : StoreState) (firing : Firing) : Type 0 where
  pub ppi : IsDesc s firing.ppi
  pub value : firing.value < 2 ^ 64
  pub entry : firing.entry < NOTE_NUMBERS
