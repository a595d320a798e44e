-- The scheduled queue, how many drivers have left it to start, and which drivers wait: those that are neither scheduled nor started. Those of the discovered volumes stand in the index, with what they wait for.
-- Own; PI 1.8, volume 2, "DXE Dispatcher".
use Rattle.std.specs.Prelude.{◌≡◌, ◌≤◌, ℕ, ◌+◌, Bool, true, false, List, [], ◌∷◌, ◌++◌, length, Option, Some, None, is_some, slice_get, unwrap_or}
use Rattle.pi_base.specs.{declared.guid.Guid.Guid, declared.phase.Phase.TheVariants.Dxe, Guids.same_guid, Lists.Each}
use Rattle.mod_catalog.specs.{declared.catalogue.Catalog.Catalog, Parts.has_number, Parts.part_at}
use Rattle.store_model.specs.HandleState.{has_protocol, no_handles}
use Rattle.boot_model.specs.{declared.driver.Scheduled.Scheduled, DxeMachine.DxeMachine, EvaluationBound.dxe_asked, Licence.AllDiffer}
use Rattle.boot_model.specs.DxeChoice.{a_priori_drivers, discovered_order, drivers_of, is_waiting, next_driver}
use Rattle.dxe_core.specs.Order.{Drivers, IsOrderOf}
use Rattle.wait_index.specs.{declared.index.WaitIndex.WaitIndex, Dispatch.StandsForDxe}
use Rattle.wait_index.specs.Index as W

-- what is kept: the queue, how many drivers have left it, by number which drivers wait, and the index of those of the discovered volumes
pub record Queue : Type 0 where
  pub scheduled : List Scheduled
  pub left : ℕ
  pub waits : List Bool
  pub index : WaitIndex

-- how many expressions have to be evaluated before the next choice
abbrev pub owed : Queue → ℕ
owed queue = W.owed queue.index

-- a number behind the flags is no module's, and waits
abbrev pub waits_at : List Bool → ℕ → Bool
waits_at flags number = unwrap_or (slice_get flags number) true

-- a driver of no discovered volume is neither scheduled nor started, nor was it requested
abbrev pub AreUntouched : Catalog → DxeMachine → Type 0
AreUntouched catalog m =
    (number : ℕ) → has_number (discovered_order catalog m) number ≡ false → (is_waiting m number ≡ true) × (has_number m.requested number ≡ false)

-- what is kept is what the machine has
pub record IsQueueOf (catalog : Catalog) (m : DxeMachine) (queue : Queue) : Type 0 where
  pub scheduled : m.scheduled ≡ queue.scheduled
  pub left : queue.left ≡ length m.started
  pub waits : (number : ℕ) → waits_at queue.waits number ≡ is_waiting m number
  pub index : StandsForDxe catalog m queue.index
  pub others : AreUntouched catalog m

-- the module that is scheduled is a driver
abbrev pub IsDriver : Catalog → Scheduled → Type 0
IsDriver catalog next = is_some (part_at Dxe catalog next.module_number) ≡ true

-- a flag for each module of the catalogue, drivers in the queue, and the index of the catalogue's drivers
pub record IsQueueFor (catalog : Catalog) (queue : Queue) : Type 0 where
  pub flags : length queue.waits ≡ length catalog.modules
  pub drivers : Each (IsDriver catalog) queue.scheduled
  pub index : W.IsIndex catalog queue.index
  pub phase : queue.index.phase ≡ Dxe

-- no volume is discovered, and nothing has been done
pub record IsNewMachine (m : DxeMachine) : Type 0 where
  pub discovered : m.discovered ≡ []
  pub requested : m.requested ≡ []
  pub scheduled : m.scheduled ≡ []
  pub started : m.started ≡ []
  pub handles : m.handles ≡ no_handles

-- a queue of such a machine
pub record IsNewQueue (catalog : Catalog) (queue : Queue) : Type 0 where
  pub of : (m : DxeMachine) → IsNewMachine m → IsQueueOf catalog m queue
  pub order : W.order_in queue.index ≡ []
  pub owes : owed queue ≡ 0

-- the drivers behind those of the index are those of these volumes
pub record AreNew (catalog : Catalog) (queue : Queue) (order : Drivers) (volumes : List ℕ) : Type 0 where
  pub drivers : order.drivers ≡ W.order_in queue.index ++ drivers_of catalog volumes
  pub differ : AllDiffer order.drivers

-- these volumes were discovered: their drivers wait, and their a priori drivers are scheduled behind the others
pub record HasVolumes (catalog : Catalog) (volumes : List ℕ) (m later : DxeMachine) : Type 0 where
  pub discovered : later.discovered ≡ m.discovered ++ volumes
  pub scheduled : later.scheduled ≡ m.scheduled ++ a_priori_drivers catalog volumes
  pub started : later.started ≡ m.started
  pub requested : later.requested ≡ m.requested
  pub handles : later.handles ≡ m.handles

-- the queue becomes that of each such machine
abbrev pub Discovers : Catalog → Queue → List ℕ → Queue → Type 0
Discovers catalog queue volumes later = (m new : DxeMachine) → IsQueueOf catalog m queue → HasVolumes catalog volumes m new → IsQueueOf catalog new later

-- this driver of a discovered volume was requested
pub record HasRequest (catalog : Catalog) (number : ℕ) (m later : DxeMachine) : Type 0 where
  pub known : has_number (discovered_order catalog m) number ≡ true
  pub requested : later.requested ≡ m.requested ++ number ∷ []
  pub discovered : later.discovered ≡ m.discovered
  pub scheduled : later.scheduled ≡ m.scheduled
  pub started : later.started ≡ m.started
  pub handles : later.handles ≡ m.handles

-- the queue becomes that of each such machine
abbrev pub Requests : Catalog → Queue → ℕ → Queue → Type 0
Requests catalog queue number later = (m new : DxeMachine) → IsQueueOf catalog m queue → HasRequest catalog number m new → IsQueueOf catalog new later

-- this protocol is on a handle now, or on none, and each other one as before
pub record HasProtocol (guid : Guid) (there : Bool) (m later : DxeMachine) : Type 0 where
  pub here : has_protocol later.handles guid ≡ there
  pub others : (other : Guid) → same_guid guid other ≡ false → has_protocol later.handles other ≡ has_protocol m.handles other
  pub discovered : later.discovered ≡ m.discovered
  pub requested : later.requested ≡ m.requested
  pub scheduled : later.scheduled ≡ m.scheduled
  pub started : later.started ≡ m.started

-- the queue becomes that of each such machine
abbrev pub Changes : Catalog → Queue → Guid → Bool → Queue → Type 0
Changes catalog queue guid there later = (m new : DxeMachine) → IsQueueOf catalog m queue → HasProtocol guid there m new → IsQueueOf catalog new later

-- no more expressions have to be evaluated than before, but those of the drivers that wait and push a GUID
abbrev pub OwesFor : Catalog → Queue → Guid → Queue → Type 0
OwesFor catalog queue guid later = (m : DxeMachine) → IsQueueOf catalog m queue → owed later ≤ owed queue + dxe_asked catalog m guid

-- how the machine is seen by what chooses its next driver: the queue, and the drivers in discovered order
pub record IsSeen (catalog : Catalog) (m : DxeMachine) (now : Queue) (drivers : Drivers) : Type 0 where
  pub queue : IsQueueOf catalog m now
  pub order : IsOrderOf catalog m.discovered drivers

-- the driver that comes next has started
pub record HasStarted (next : ℕ) (rest : List Scheduled) (m later : DxeMachine) : Type 0 where
  pub scheduled : later.scheduled ≡ rest
  pub started : later.started ≡ next ∷ m.started
  pub discovered : later.discovered ≡ m.discovered
  pub requested : later.requested ≡ m.requested
  pub handles : later.handles ≡ m.handles

-- the driver comes next, and the queue is that of each machine in which it has started from there
pub record IsNext (catalog : Catalog) (m : DxeMachine) (next : Scheduled) (later : Queue) : Type 0 where
  pub rest : List Scheduled
  pub next_is : next_driver catalog m ≡ Some (next, rest)
  pub behind : (new : DxeMachine) → HasStarted next.module_number rest m new → IsQueueOf catalog new later

-- what comes next in a machine, by the answer
abbrev pub ComesNext : Catalog → DxeMachine → Option Scheduled → Queue → Type 0
ComesNext catalog m None later = (next_driver catalog m ≡ None) × IsQueueOf catalog m later
ComesNext catalog m (Some next) later = IsNext catalog m next later
