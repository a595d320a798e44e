-- What is told of the machine to what chooses its next driver, and how a group is walked with a stack.
-- Own; PI 1.8, volume 2, "DXE Dispatcher".
use Rattle.std.specs.Prelude.{◌≡◌, ℕ, ◌<◌, ◌≤◌, ◌+◌, Bool, true, false, ◌==◌, ◌&&◌, not, if◌then◌else◌, List, [], ◌∷◌, ◌++◌, length, map, filter, Option, Some, None}
use Rattle.pi_base.specs.{declared.guid.Guid.Guid, declared.phase.Phase.TheVariants.Dxe}
use Rattle.mod_catalog.specs.{declared.catalogue.Catalog.Catalog, Parts.module_name}
use Rattle.boot_model.specs.{declared.driver.Scheduled.Scheduled, DxeChoice.driver_queue, DxeChoice.is_waiting, DxeMachine.DxeMachine}
use Rattle.boot_laws.specs.GroupUnfolds.{IsRoot}
use Rattle.dxe_core.specs.Order.{Drivers, IsOrderOf, first_driver, befores_of, afters_of}
use Rattle.wait_index.specs.Discovery.{HaveCome}
use Rattle.dxe_dispatch.specs.{declared.group.Item.Item, Index.WaitNoMore, Index.is_scheduled_in}
use Rattle.dxe_dispatch.specs.declared.group.Item.TheVariants as I
use Rattle.boot_model.specs.declared.licence.Licence.TheVariants as G
use Rattle.dxe_dispatch.specs.Queue.{Queue, IsQueueOf, IsSeen, owed, waits_at}

-- the flags say which drivers wait
abbrev pub AreWaiting : DxeMachine → List Bool → Type 0
AreWaiting m waits = (number : ℕ) → waits_at waits number ≡ is_waiting m number

-- the drivers in discovered order, and which of them wait
pub record HaveWaiting (catalog : Catalog) (m : DxeMachine) (drivers : Drivers) (flags : List Bool) : Type 0 where
  pub order : IsOrderOf catalog m.discovered drivers
  pub waits : AreWaiting m flags

-- whether a driver is the first of its name
abbrev pub is_first_named : Option ℕ → ℕ → Bool
is_first_named None number = false
is_first_named (Some first) number = first == number

-- those of the drivers that give its name which wait, if a driver is the first of the name
abbrev pub companions : Catalog → Drivers → (Guid → List ℕ) → List Bool → ℕ → List ℕ
companions catalog order givers waits number =
    if is_first_named (first_driver order (module_name catalog number)) number then filter (waits_at waits) (givers (module_name catalog number)) else []

-- a group in the place of a driver: the groups before it, the driver, the groups after it
abbrev pub unfolded : Catalog → Drivers → List Bool → ℕ → List Item
unfolded catalog order waits number =
    map I.Group (companions catalog order (befores_of order) waits number) ++ I.Driver number ∷ map I.Group (companions catalog order (afters_of order) waits number)

-- an item is taken: a driver comes to the group's front, which is its list's end, and a group's items to the stack
abbrev pub TakesItem : (ℕ → List Item) → List Item → List ℕ → Item → List Item → List ℕ → Type 0
TakesItem items stack group (I.Group number) stack_later group_later = (stack_later ≡ stack ++ items number) × (group_later ≡ group)
TakesItem items stack group (I.Driver number) stack_later group_later = (stack_later ≡ stack) × (group_later ≡ group ++ number ∷ [])

-- these come to the queue's end, and wait no more
pub record Schedules (queue : Queue) (added : List Scheduled) (later : Queue) : Type 0 where
  pub scheduled : later.scheduled ≡ queue.scheduled ++ added
  pub left : later.left ≡ queue.left
  pub waits : (number : ℕ) → waits_at later.waits number ≡ (not (is_scheduled_in added number) && waits_at queue.waits number)
  pub flags : length later.waits ≡ length queue.waits
  pub index : WaitNoMore (is_scheduled_in added) queue.index later.index

-- the head leaves the queue, if there is one
abbrev pub TakesHead : Queue → Option Scheduled → Queue → Type 0
TakesHead queue None later = (queue.scheduled ≡ []) × (later ≡ queue)
TakesHead queue (Some next) later =
    (queue.scheduled ≡ next ∷ later.scheduled) × (later.left ≡ queue.left + 1) × (later.waits ≡ queue.waits) × (later.index ≡ queue.index)

-- all flags are up
abbrev pub AllWait : List Bool → Type 0
AllWait waits = (number : ℕ) → waits_at waits number ≡ true

-- there is a flag for this number
abbrev pub HasFlagFor : Queue → ℕ → Type 0
HasFlagFor queue number = number < length queue.waits

-- these drivers wait in the index, and the queue is as before
pub record Come (catalog : Catalog) (drivers : List ℕ) (old new : Queue) : Type 0 where
  pub scheduled : new.scheduled ≡ old.scheduled
  pub left : new.left ≡ old.left
  pub waits : new.waits ≡ old.waits
  pub phase : new.index.phase ≡ old.index.phase
  pub installed : new.index.installed ≡ old.index.installed
  pub come : HaveCome Dxe catalog drivers old.index.places new.index.places
  pub owes : owed new ≤ owed old + length drivers

-- the driver waits in the machine that is seen, and is eligible
pub record IsSeenRoot (catalog : Catalog) (m : DxeMachine) (now : Queue) (drivers : Drivers) (root : ℕ) : Type 0 where
  pub seen : IsSeen catalog m now drivers
  pub is_root : IsRoot catalog m root

-- a driver with its place in an a priori list
abbrev pub as_apriori : ℕ → Scheduled
as_apriori number = record { module_number = number; licence = G.Apriori }

-- the queue from which a machine's next driver is taken, the group of the first eligible driver if nothing was scheduled
abbrev pub IsFilledQueue : Catalog → DxeMachine → Queue → Type 0
IsFilledQueue catalog m queue = IsQueueOf catalog (record m { scheduled = driver_queue catalog m }) queue
