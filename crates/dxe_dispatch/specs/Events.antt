-- What an event of the machine is to the queue: the protocol that it changed, and the driver that it requested.
-- Own.
use Rattle.std.specs.Prelude.{◌≡◌, ◌≤◌, ◌+◌, false, ◌++◌, Option, IfSome, sum_by, option_to_list}
use Rattle.pi_base.specs.declared.guid.Guid.{Guid}
use Rattle.mod_catalog.specs.declared.catalogue.Catalog.{Catalog}
use Rattle.store_model.specs.HandleState.{HandleState, has_protocol}
use Rattle.boot_model.specs.{DxeMachine.DxeMachine, EvaluationBound.dxe_asked}
use Rattle.boot_laws.specs.ChangedGuids.{is_among}
use Rattle.dxe_core.specs.{Event.IsDiscoveredDriver, declared.event.Event.Event, Standing.DxeCore}
use Rattle.dxe_dispatch.specs.Queue.{Queue, IsQueueOf, owed}

-- these are the handles now, which differ for one protocol alone
pub record HasHandles (handles : HandleState) (changed : Option Guid) (m later : DxeMachine) : Type 0 where
  pub same : later.handles ≡ handles
  pub others : (guid : Guid) → is_among guid (option_to_list changed) ≡ false → has_protocol later.handles guid ≡ has_protocol m.handles guid
  pub discovered : later.discovered ≡ m.discovered
  pub requested : later.requested ≡ m.requested
  pub scheduled : later.scheduled ≡ m.scheduled
  pub started : later.started ≡ m.started

-- the queue is told of it: it becomes that of the later machine
abbrev pub TellsChange : Catalog → DxeCore → Queue → Option Guid → Queue → Type 0
TellsChange catalog core queue changed later =
    (m new : DxeMachine) → IsQueueOf catalog m queue → HasHandles core.services.handles changed m new → IsQueueOf catalog new later

-- these are the handles now, and this driver was requested; no volume was discovered yet
pub record HasEvent (handles : HandleState) (catalog : Catalog) (event : Event) (m later : DxeMachine) : Type 0 where
  pub same : later.handles ≡ handles
  pub others : (guid : Guid) → is_among guid (option_to_list event.changed) ≡ false → has_protocol later.handles guid ≡ has_protocol m.handles guid
  pub requested : later.requested ≡ m.requested ++ option_to_list event.requested
  pub in_order : IfSome event.requested (IsDiscoveredDriver catalog m)
  pub discovered : later.discovered ≡ m.discovered
  pub scheduled : later.scheduled ≡ m.scheduled
  pub started : later.started ≡ m.started

-- the queue is told of it: it becomes that of the later machine
abbrev pub TellsQueue : Catalog → DxeCore → Queue → Event → Queue → Type 0
TellsQueue catalog core queue event later =
    (m new : DxeMachine) → IsQueueOf catalog m queue → HasEvent core.services.handles catalog event m new → IsQueueOf catalog new later

-- no more expressions have to be evaluated than before, but those of the drivers that wait and push the protocol
abbrev pub OwesForChange : Catalog → Queue → Option Guid → Queue → Type 0
OwesForChange catalog queue changed later = (m : DxeMachine) → IsQueueOf catalog m queue → owed later ≤ owed queue + sum_by (dxe_asked catalog m) (option_to_list changed)
