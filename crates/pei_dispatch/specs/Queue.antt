-- The parts of PEI as they are kept, in the index of those that wait, and the cursor.
-- Own.
use Rattle.std.specs.Prelude.{◌≡◌, ℕ, ◌+◌, ◌≤◌, Bool, true, not, ◌&&◌, List, ◌++◌, sum_by, Some, None}
use Rattle.pi_base.specs.{declared.guid.Guid.Guid, declared.phase.Phase.TheVariants.Pei, GuidMap.value_of}
use Rattle.mod_catalog.specs.{declared.catalogue.Catalog.Catalog, Parts.has_number}
use Rattle.boot_model.specs.{EvaluationBound.each_once, EvaluationBound.pei_asked, Licence.AllDiffer, PeiChoice.pei_order}
use Rattle.boot_model.specs.{PeiMachine.PeiMachine, declared.peim_state.PeimState.PeimState}
use Rattle.wait_index.specs.Index.{IsIndex, order_in, waits_in, is_open_in, again_in, has_in, owed}
use Rattle.pei_dispatch.specs.{declared.queue.PeiQueue.PeiQueue, LastStart.newest}
use Rattle.pei_dispatch.specs.View.{View, awaits_again, first_view, view_of, parts_of}

-- how many expressions have to be evaluated before the next PEIM is told
abbrev pub owed_by : PeiQueue → ℕ
owed_by queue = owed queue.index

-- the parts in the order in which they are tried
abbrev pub parts_in : PeiQueue → List ℕ
parts_in queue = order_in queue.index

-- the index is of the catalogue, and shows what is known of the machine; parts that have started are of volumes that were reported
pub record Shows (catalog : Catalog) (queue : PeiQueue) (view : View) : Type 0 where
  pub of_catalog : IsIndex catalog queue.index
  pub phase : queue.index.phase ≡ Pei
  pub order : parts_in queue ≡ parts_of catalog view
  pub waits : (number : ℕ) → has_number (parts_in queue) number ≡ true → waits_in queue.index number ≡ not (view.started number)
  pub opens : (number : ℕ) → has_number (parts_in queue) number ≡ true → is_open_in queue.index number ≡ true
  pub allowed : (number : ℕ) → has_number (parts_in queue) number ≡ true → again_in queue.index number ≡ (view.started number && view.again number)
  pub installed : (guid : Guid) (slot : ℕ) → value_of queue.index.installed.slots guid ≡ Some slot → has_in queue.index guid ≡ view.has guid
  pub within : (number : ℕ) → view.started number ≡ true → has_number (parts_of catalog view) number ≡ true

-- what a change of the view comes to, over each one that the queue shows and that passes a test
abbrev pub ShowsBehind : Catalog → PeiQueue → PeiQueue → (View → Type 0) → (View → View) → Type 0
ShowsBehind catalog old new Test change = (view : View) → Shows catalog old view → Test view → Shows catalog new (change view)

-- the queue stands for the machine
pub record IsQueueOf (catalog : Catalog) (m : PeiMachine) (queue : PeiQueue) : Type 0 where
  pub shows : Shows catalog queue (view_of m)
  pub place : m.cursor ≡ queue.cursor
  pub walked : queue.walked ≡ newest m.started

-- its parts and its cursor are the machine's
pub record IsPlaced (catalog : Catalog) (m : PeiMachine) (queue : PeiQueue) : Type 0 where
  pub parts : parts_in queue ≡ pei_order catalog m.reported
  pub place : m.cursor ≡ queue.cursor

-- volumes that were not reported yet
abbrev pub AreNew : List ℕ → View → Type 0
AreNew volumes view = AllDiffer (view.reported ++ volumes)

-- the part has started; it has where it awaits its second start; or all of these have
abbrev pub HasStarted : ℕ → View → Type 0
HasStarted number view = view.started number ≡ true

abbrev pub HasStartedBy : ℕ → PeimState → View → Type 0
HasStartedBy number state view = awaits_again state ≡ true → view.started number ≡ true

abbrev pub HaveStarted : (ℕ → Bool) → View → Type 0
HaveStarted these view = (number : ℕ) → these number ≡ true → view.started number ≡ true

-- the part is in the order
abbrev pub IsInOrder : Catalog → ℕ → View → Type 0
IsInOrder catalog number view = has_number (parts_of catalog view) number ≡ true

-- no more has to be evaluated than before, and the parts that wait in the machine and push one of these GUIDs, counted for each of them
abbrev pub OwesFor : Catalog → PeiMachine → List Guid → PeiQueue → PeiQueue → Type 0
OwesFor catalog m guids old new = owed_by new ≤ owed_by old + sum_by (pei_asked catalog m) (each_once guids)

-- no volume is reported, nothing has started, and nothing has to be evaluated
pub record IsNewQueue (catalog : Catalog) (queue : PeiQueue) : Type 0 where
  pub shows : Shows catalog queue first_view
  pub place : queue.cursor ≡ 0
  pub walked : queue.walked ≡ None
  pub owes : owed_by queue ≡ 0
