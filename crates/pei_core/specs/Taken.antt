-- What a call that takes an action of PEI's own answers: what the action does by the definition, with the state after it. Want of memory leaves the state as it was.
-- Own.
use Rattle.std.specs.Prelude.{◌≡◌, Bool, true, List, [], None, Some, Option, Result, Ok, Err, ⊤}
use Rattle.pi_base.specs.{declared.word.Word.Word, declared.word.Word.TheVariants.Success, declared.memory.OutOfMemory.OutOfMemory}
use Rattle.act_code.specs.declared.action.Action.{Action}
use Rattle.store_model.specs.{declared.store_handle.Desc.Desc, declared.store_handle.Sweep.Sweep}
use Rattle.store_model.specs.{declared.store_handle.StoreFault.StoreFault, StoreState.StoreState, Service.Descriptor.offsets}
use Rattle.store_model.specs.Service.{And, AfterEach, OfEach, fault_status}
use Rattle.boot_model.specs.{declared.frame.Register.Register, declared.line.CallName.CallName, declared.line.Extra.Extra}
use Rattle.boot_model.specs.{declared.line.Extra.TheVariants.Nothing, MachineFacts.HoldRegisters, PeiMachine.Frame}
use Rattle.boot_model.specs.PeiAction.{Effect, Wrote, Called, Own, Shadowed, effect}
use Rattle.boot_model.specs.PeiAction as Machine
use Rattle.phase_parts.specs.{declared.registers.Writes.Writes, Writes.written}
use Rattle.phase_parts.specs.declared.registers.Writes.TheVariants as W
use Rattle.pei_core.specs.{Guids.AreChangesOf, Guids.no_changes, declared.guids.Changes.Changes, declared.taken.Reply.Reply}
use Rattle.pei_core.specs.declared.taken.Taken.{Taken}
use Rattle.pei_core.specs.declared.taken.Taken.TheVariants as T

-- an answer without callbacks to visit, one of success, and a refusal
abbrev pub answered : CallName → Word → Extra → Writes → Taken
answered name status extra writes = T.Called (record {
  name = name;
  status = status;
  extra = extra;
  writes = writes;
  sweep = None;
  installs = record { items = [] };
  changes = no_changes;
})

abbrev pub told : CallName → Extra → Writes → Taken
told name extra writes = answered name Success extra writes

abbrev pub refusal : CallName → Word → Taken
refusal name status = answered name status Nothing W.Nothing

-- an answer with callbacks to visit, PPIs that were installed, and the GUIDs that were changed
abbrev pub swept : CallName → Sweep → List Desc → Changes → Taken
swept name sweep installs changes = T.Called (record {
  name = name;
  status = Success;
  extra = Nothing;
  writes = W.Nothing;
  sweep = Some sweep;
  installs = record { items = installs };
  changes = changes;
})

-- a fault is a refusal with its status; running out of memory has none
abbrev pub refused_with : CallName → Option Word → Result Taken OutOfMemory
refused_with name None = Err (record {})
refused_with name (Some status) = Ok (refusal name status)

abbrev pub refused : CallName → StoreFault → Result Taken OutOfMemory
refused name fault = refused_with name (fault_status fault)

-- the machine's reply, by the registers before it and the state after it
abbrev pub reply_in : Reply → List Register → StoreState → Machine.Reply
reply_in reply registers new = record {
  status = reply.status;
  extra = reply.extra;
  store = new;
  registers = written registers reply.writes;
  sweep = reply.sweep;
  installs = offsets reply.installs.items;
}

-- what was taken is what the action does
abbrev pub Does : Effect → StoreState → List Register → Taken → StoreState → Type 0
Does does old registers (T.Wrote status writes) new = (does ≡ Wrote (written registers writes) status) × (new ≡ old)
Does does old registers (T.Called reply) new = does ≡ Called reply.name (reply_in reply registers new)
Does does old registers T.Shadowed new = (does ≡ Own Shadowed) × (new ≡ old)

-- the effect is done, or memory ran out, which happens only if `memory` is true
abbrev pub IsTaken : Bool → Effect → StoreState → List Register → Result Taken OutOfMemory → StoreState → Type 0
IsTaken memory does old registers (Ok taken) new = Does does old registers taken new
IsTaken memory does old registers (Err none) new = (memory ≡ true) × (new ≡ old)

-- an action over each state that the store stands for: it may change the state, allocate nothing, or leave the state as it was
abbrev pub Acts : Bool → (StoreState → Type 0) → (StoreState → Type 0) → Action → Frame → Result Taken OutOfMemory → Type 0
Acts memory stood stands action frame result =
    AfterEach (And stood (HoldRegisters frame.registers)) stands (λ old new. IsTaken memory (effect old frame action) old frame.registers result new)

abbrev pub ActsAlways : (StoreState → Type 0) → (StoreState → Type 0) → Action → Frame → Taken → Type 0
ActsAlways stood stands action frame taken =
    AfterEach (And stood (HoldRegisters frame.registers)) stands (λ old new. Does (effect old frame action) old frame.registers taken new)

abbrev pub Reads : (StoreState → Type 0) → Action → Frame → Taken → Type 0
Reads stands action frame taken =
    OfEach stands (HoldRegisters frame.registers) (λ s. Does (effect s frame action) s frame.registers taken s)

-- the GUIDs that it changed
abbrev pub changes_by : Taken → Changes
changes_by (T.Wrote status writes) = no_changes
changes_by (T.Called reply) = reply.changes
changes_by T.Shadowed = no_changes

-- they changed no GUID
abbrev pub ChangedNone : Result Taken OutOfMemory → Type 0
ChangedNone (Ok taken) = changes_by taken ≡ no_changes
ChangedNone (Err none) = ⊤

-- they are those of the action, from a state before it, and from each that the store stood for
abbrev pub HasChanged : StoreState → Action → Frame → Result Taken OutOfMemory → Type 0
HasChanged s action frame (Ok taken) = AreChangesOf s frame action (changes_by taken)
HasChanged s action frame (Err none) = ⊤

abbrev pub Changed : (StoreState → Type 0) → Action → Frame → Result Taken OutOfMemory → Type 0
Changed stood action frame result = OfEach stood (HoldRegisters frame.registers) (λ s. HasChanged s action frame result)
