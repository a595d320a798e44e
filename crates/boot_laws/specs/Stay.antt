-- After an action what was there is still there, and no list of PPIs or callbacks is shorter.
-- The callbacks that a call has to visit are within the lists.
-- Own.
use Rattle.std.specs.Prelude.{◌≡◌, ◌≢◌, ◌-◌, ◌≤◌, ℕ, List, [], length, take, drop, Option, Some, None, ⊤}
use Rattle.act_code.specs.declared.action.Action.{Action}
use Rattle.boot_model.specs.{declared.frame.Register.Register, PeiMachine.Frame, declared.line.CallName.CallName}
use Rattle.store_model.specs.{declared.store_handle.Sweep.Sweep, StoreState.StoreState, StateFacts.IsStoreState, StateFacts.IsSweepOf}
use Rattle.store_model.specs.Service.Descriptor.{descriptors}
use Rattle.boot_model.specs.PeiAction.{Reply, Effect, Wrote, Called, Own, Shadowed, Logged, Skipped, Returned, effect}
use Rattle.boot_model.specs.MachineFacts.{IsHeld, HoldRegisters}

-- what a register may hold it may still, and no list is shorter
pub record IsLater (s new : StoreState) : Type 0 where
  pub held : (x : Register) → IsHeld s x → IsHeld new x
  pub ppis : length s.ppis ≤ length new.ppis
  pub callbacks : length s.callbacks ≤ length new.callbacks

-- the descriptors of the PPIs that a sweep has not passed
abbrev pub swept_ppis : StoreState → Sweep → List ℕ
swept_ppis s sweep = descriptors (take (sweep.ppi_to - sweep.ppi_at) (drop sweep.ppi_at s.ppis))

-- a call's sweep is within the lists, and visits the PPIs that the call installs; without a sweep it installs none
abbrev pub Visits : StoreState → Option Sweep → List ℕ → Type 0
Visits s None installs = installs ≡ []
Visits s (Some sweep) installs = IsSweepOf s sweep × (installs ≢ [] → installs ≡ swept_ppis s sweep)

-- what a service answers a script
pub record IsReply (s : StoreState) (reply : Reply) : Type 0 where
  pub registers : HoldRegisters reply.registers reply.store
  pub later : IsLater s reply.store
  pub visits : Visits reply.store reply.sweep reply.installs

-- what an action of a script leaves
abbrev pub HoldsAfter : StoreState → Effect → Type 0
HoldsAfter s (Wrote registers status) = HoldRegisters registers s
HoldsAfter s (Called name reply) = IsReply s reply
HoldsAfter s (Own Shadowed) = ⊤
HoldsAfter s (Logged text) = ⊤
HoldsAfter s (Skipped n) = ⊤
HoldsAfter s (Returned status) = ⊤

abbrev pub ActionsAreSound : Type 0
ActionsAreSound =
    (s : StoreState) (frame : Frame) (action : Action) → IsStoreState s → HoldRegisters frame.registers s
    → HoldsAfter s (effect s frame action)

abbrev pub RepliesAreSound : Type 0
RepliesAreSound =
    (s : StoreState) (frame : Frame) (action : Action) (name : CallName) (reply : Reply)
    → IsStoreState s → HoldRegisters frame.registers s → effect s frame action ≡ Called name reply → IsReply s reply
