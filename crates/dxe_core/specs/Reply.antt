-- What a call that takes an action of DXE's own answers: what the action does by the definition, with the machine after it. Own; PI 1.8, volume 2.
use Rattle.std.specs.Prelude.{◌≡◌, ℕ, if◌then◌else◌, List, [], Result, Ok, Err, ⊤, option_to_list}
use Rattle.pi_base.specs.{declared.guid.Guid.Guid, declared.memory.OutOfMemory.OutOfMemory, declared.word.Word.Word}
use Rattle.act_code.specs.declared.action.Action.{Action}
use Rattle.mod_catalog.specs.declared.catalogue.Catalog.{Catalog}
use Rattle.store_model.specs.StoreState.{StoreState}
use Rattle.boot_model.specs.{declared.frame.Register.Register, DxeMachine.DxeMachine, DxeMachine.DriverFrame}
use Rattle.boot_model.specs.DxeAction.{DxeReply, Called, own_dxe_effect}
use Rattle.boot_model.specs.{EvaluationBound.changed_protocols, Registers.is_success}
use Rattle.boot_laws.specs.UnrequestedDrivers.{WaitForRequest}
use Rattle.phase_parts.specs.Writes.{written}
use Rattle.dxe_core.specs.{Event.EventLeaves, declared.reply.Reply.Reply, Services.Services, Services.AreServicesOf}

-- the machine's reply, by the registers before it, the machine after it and the volumes that it discovered
abbrev pub reply_in : Reply → List Register → DxeMachine → List ℕ → DxeReply
reply_in reply registers later volumes = record {
  status = reply.status;
  extra = reply.extra;
  machine = later;
  registers = written registers reply.writes;
  sweep = reply.sweep;
  volumes = volumes;
}

-- the protocols that an action changes if its call has this status: none if it is refused
abbrev pub changed_by : Action → Word → List Guid
changed_by action status = if is_success status then changed_protocols action else []

-- a service leaves the store, the count of actions, the lines and the end of the machine unchanged
pub record KeepsRest (m later : DxeMachine) : Type 0 where
  pub store : later.store ≡ m.store
  pub actions : later.actions ≡ m.actions
  pub lines : later.lines ≡ m.lines
  pub ended : later.ended ≡ m.ended

-- the action is a call of a service, which replies so, and its event is what it did
pub record IsReply (catalog : Catalog) (m : DxeMachine) (frame : DriverFrame) (action : Action) (reply : Reply) (new : Services) : Type 0 where
  pub later : DxeMachine
  pub left : EventLeaves catalog reply.event m later
  pub changed : option_to_list reply.event.changed ≡ changed_by action reply.status
  pub does : own_dxe_effect catalog m frame action ≡ Called reply.name (reply_in reply frame.registers later left.volumes)
  pub has : AreServicesOf catalog later new
  pub rest : KeepsRest m later

-- by the answer
abbrev pub Replies : Catalog → DxeMachine → DriverFrame → Action → Result Reply OutOfMemory → Services → Type 0
Replies catalog m frame action (Ok reply) new = IsReply catalog m frame action reply new
Replies catalog m frame action (Err none) new = ⊤

-- from each machine that has these services over this store, and in which drivers wait for their request
abbrev pub ServesOwn : {M : Type 0} → (M → StoreState → Type 0) → M → Catalog → Services → DriverFrame → Action → Services → Result Reply OutOfMemory → Type 0
ServesOwn stands store catalog services frame action new result =
    (m : DxeMachine) → stands store m.store → AreServicesOf catalog m services → WaitForRequest catalog m
    → Replies catalog m frame action result new
