-- What a step of the core answers and leaves, and what a start does.
-- Own; PI 1.8, volume 2, "DXE Dispatcher".
use Rattle.std.specs.Prelude.{◌≡◌, ℕ, false, List, [], Option, Some, Result, Ok, Err, ⊤, option_to_list}
use Rattle.std.specs.Io.KnownBytes.{Appends}
use Rattle.boot_io.specs.{declared.halt.Halt.Halt, declared.sink.SinkFault.SinkFault}
use Rattle.pi_base.specs.{declared.guid.Guid.Guid, declared.phase.Phase.TheVariants.Dxe}
use Rattle.mod_catalog.specs.{declared.catalogue.Catalog.Catalog, Parts.part_at}
use Rattle.store_model.specs.{HandleState.has_protocol, StoreState.StoreState}
use Rattle.boot_model.specs.{declared.driver.Scheduled.Scheduled, declared.phase_end.DxeEnd.DxeEnd, DxeMachine.DxeMachine}
use Rattle.boot_model.specs.declared.phase_end.DxeEnd.TheVariants as E
use Rattle.boot_model.specs.{DxeStep.dxe_step, DxeStep.driver_started, EvaluationBound.dxe_guids}
use Rattle.boot_laws.specs.{ChangedGuids.is_among, UnrequestedDrivers.WaitForRequest}
use Rattle.dxe_core.specs.{Event.EventLeaves, declared.event.Event.Event, declared.stepped.Stepped.Stepped, Turn.Printed, Turn.PrintedPart}
use Rattle.dxe_core.specs.declared.stepped.Stepped.TheVariants.{Went, Idle, Ended}
use Rattle.dxe_core.specs.Standing.{DxeCore, IsCoreOf, IsFor, StandsFor}
use Rattle.boot_trace.specs.Printing.{Texts}

-- a call of the core: the core and the sink's text before it, and after it
pub record CoreCall : Type 0 where
  pub before : DxeCore
  pub later : DxeCore
  pub old : Option (List ℕ)
  pub new : Option (List ℕ)

-- what its sink holds, before it and after it
abbrev pub texts_of : CoreCall → Texts
texts_of call = record { old = call.old; new = call.new }

-- no script runs: a start or the end is left
abbrev pub IsIdle : DxeMachine → Type 0
IsIdle m = m.frames ≡ []

-- what the event from a machine did: it changed this protocol, if any, besides which each is on a handle as before; and what it leaves
pub record IsEvent (catalog : Catalog) (fuel : ℕ) (m : DxeMachine) (event : Event) : Type 0 where
  pub changed : option_to_list event.changed ≡ dxe_guids catalog fuel m
  pub others : (guid : Guid) → is_among guid (option_to_list event.changed) ≡ false → has_protocol (dxe_step catalog fuel m).handles guid ≡ has_protocol m.handles guid
  pub left : EventLeaves catalog event m (dxe_step catalog fuel m)

-- the machine is the later one now, and its lines were written
pub record HasStepped (Stands : DxeMachine → Type 0) (m later : DxeMachine) (t : Texts) : Type 0 where
  pub printed : Printed m later t
  pub machine : Stands later

-- the machine is as it was, and nothing was written
pub record IsAsBefore (Stands : DxeMachine → Type 0) (m : DxeMachine) (t : Texts) : Type 0 where
  pub text : Appends t.old t.new []
  pub machine : Stands m

-- the ends that come before an action or a notification
abbrev pub IsCut : DxeEnd → Type 0
IsCut E.Done = ⊥
IsCut E.Spent = ⊤
IsCut E.Deep = ⊤

-- the machine ends so from here, and is as it was
pub record IsCutOff (Stands : DxeMachine → Type 0) (catalog : Catalog) (fuel : ℕ) (m : DxeMachine) (end : DxeEnd) (t : Texts) : Type 0 where
  pub cut : IsCut end
  pub ended : dxe_step catalog fuel m ≡ record m { ended = Some end }
  pub stayed : IsAsBefore Stands m t

-- a step from a machine, by its answer
abbrev pub StepsTo : (DxeMachine → Type 0) → Catalog → ℕ → DxeMachine → Texts → Result Stepped Halt → Type 0
StepsTo Stands catalog fuel m t (Ok (Went event)) = (IsIdle m → ⊥) × IsEvent catalog fuel m event × HasStepped Stands m (dxe_step catalog fuel m) t
StepsTo Stands catalog fuel m t (Ok Idle) = IsIdle m × IsAsBefore Stands m t
StepsTo Stands catalog fuel m t (Ok (Ended end)) = IsCutOff Stands catalog fuel m end t
StepsTo Stands catalog fuel m t (Err halt) = PrintedPart m (dxe_step catalog fuel m) t

-- a step of the core, from each machine that it stands for with its store, and in which drivers wait for their request
abbrev pub Steps : {M : Type 0} → (M → StoreState → Type 0) → M → Catalog → CoreCall → Result Stepped Halt → Type 0
Steps stands store catalog call result =
    (m : DxeMachine) (fuel : ℕ) → IsFor catalog fuel call.before → StandsFor stands store catalog call.before m → WaitForRequest catalog m
    → StepsTo (StandsFor stands store catalog call.later) catalog fuel m (texts_of call) result

-- a start, by its answer
abbrev pub StartsTo : (DxeMachine → Type 0) → DxeMachine → DxeMachine → Texts → Result (Unit {0}) SinkFault → Type 0
StartsTo Stands m later t (Ok _) = HasStepped Stands m later t
StartsTo Stands m later t (Err _) = PrintedPart m later t

-- the core has what the machine has, over the store of the machine before
pub record HasOver (catalog : Catalog) (kept : DxeCore) (before m : DxeMachine) : Type 0 where
  pub store : m.store ≡ before.store
  pub core : IsCoreOf catalog kept m

-- the start of a driver at the head of a queue, from each machine that the core has; the store stays
abbrev pub Starts : Catalog → CoreCall → Scheduled → Result (Unit {0}) SinkFault → Type 0
Starts catalog call next result =
    (m : DxeMachine) (queue : List Scheduled) → IsCoreOf catalog call.before m
    → StartsTo (HasOver catalog call.later m) m (driver_started catalog m next queue (part_at Dxe catalog next.module_number)) (texts_of call) result
