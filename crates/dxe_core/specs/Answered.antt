-- The answers of the services, and what a service does from each machine that has what the services act on. Own; PI 1.8, volume 2, "Protocol Handler Services"
-- and "DXE Services".
use Rattle.std.specs.Prelude.{◌≡◌, ℕ, ◌≤◌, ◌+◌, length, None, Some, Result, Ok, Err}
use Rattle.pi_base.specs.{declared.guid.Guid.Guid, declared.word.Word.Word, declared.memory.OutOfMemory.OutOfMemory}
use Rattle.pi_base.specs.declared.word.Word.TheVariants as S
use Rattle.act_code.specs.declared.action.Action.{Action}
use Rattle.act_code.specs.declared.action.Action.TheVariants as A
use Rattle.mod_catalog.specs.{declared.catalogue.Catalog.Catalog, Parts.volume_at}
use Rattle.boot_model.specs.{Registers.number_in, declared.line.CallName.CallName, declared.line.Extra.Extra}
use Rattle.boot_model.specs.{declared.line.Extra.TheVariants.Nothing, declared.driver.ProtocolSweep.ProtocolSweep}
use Rattle.boot_model.specs.DxeMachine.{DxeMachine, DriverFrame}
use Rattle.dxe_core.specs.{declared.database.fault.HandleFault.HandleFault, declared.event.Event.Event, declared.reply.Reply.Reply}
use Rattle.dxe_core.specs.declared.database.fault.HandleFault.TheVariants as F
use Rattle.phase_parts.specs.declared.registers.Writes.{Writes}
use Rattle.phase_parts.specs.declared.registers.Writes.TheVariants as W
use Rattle.dxe_core.specs.{Event.quiet, Services.Services, Services.AreServicesOf, Reply.Replies}

-- an answer without notifications to visit, of a call whose event is quiet
abbrev pub answered : CallName → Word → Extra → Writes → Reply
answered name status extra writes = record { name = name; status = status; extra = extra; writes = writes; sweep = None; event = quiet }

-- one of success
abbrev pub told : CallName → Extra → Writes → Reply
told name extra writes = answered name S.Success extra writes

-- a refusal
abbrev pub refusal : CallName → Word → Reply
refusal name status = answered name status Nothing W.Nothing

-- a success with notifications to visit
abbrev pub swept : CallName → Extra → Writes → ProtocolSweep → Reply
swept name extra writes sweep = record (told name extra writes) { sweep = Some sweep }

-- the answer of a call that did this
abbrev pub did : Event → Reply → Reply
did event reply = record reply { event = event }

-- a fault of the handles is a refusal with its status; running out of memory is not one
abbrev pub refused : CallName → HandleFault → Result Reply OutOfMemory
refused name F.InvalidParameter = Ok (refusal name S.InvalidParameter)
refused name F.NotFound = Ok (refusal name S.NotFound)
refused name F.Memory = Err (record {})

-- the notifications of a protocol that are registered, for an interface on a handle
abbrev pub sweep_of : Services → Guid → ℕ → ℕ → ProtocolSweep
sweep_of s guid interface handle = record { guid = guid; interface = interface; handle = handle; note_at = 0; note_to = length s.notes }

-- what the action does from each machine that has these services
abbrev pub Serves : Catalog → Services → DriverFrame → Action → Result Reply OutOfMemory → Services → Type 0
Serves catalog services frame action result new =
    (m : DxeMachine) → AreServicesOf catalog m services → Replies catalog m frame action result new

-- the action that names an address in a register, if this volume is mapped there, from each machine that has these services
abbrev pub ProcessesVolume : Catalog → Services → ℕ → Result Reply OutOfMemory → Services → Type 0
ProcessesVolume catalog services volume result new =
    (m : DxeMachine) (frame : DriverFrame) (v base : ℕ) → AreServicesOf catalog m services
    → number_in frame.registers v ≡ Some base → volume_at catalog base ≡ Some volume → Replies catalog m frame (A.Process v) result new

-- at most one handle was made, one interface added and one notification registered, and the number of flags is unchanged
pub record GrowByOne (old new : Services) : Type 0 where
  pub made : new.handles.made ≤ old.handles.made + 1
  pub interfaces : length new.handles.interfaces ≤ length old.handles.interfaces + 1
  pub notes : length new.notes ≤ length old.notes + 1
  pub flags : length new.requested ≡ length old.requested
