-- The scheduled queue keeps its order. A step puts new drivers after those that are in it, or its head leaves it and starts. So what is in a queue starts in
-- that order, one driver after the other, whatever is discovered meanwhile. A companion starts next to the driver that it names, with nothing but companions of
-- either between them. PI 1.8, volume 2, "DXE Dispatcher", and BEFORE and AFTER in "Dependency Expressions".
use Rattle.std.specs.Prelude.{◌≡◌, ◌⊎◌, ℕ, true, List, [], ◌∷◌, ◌++◌, reverse}
use Rattle.mod_catalog.specs.{declared.catalogue.Catalog.Catalog, Parts.has_number, WellFormed.AreNumbered}
use Rattle.store_model.specs.StoreState.{StoreState}
use Rattle.boot_model.specs.{declared.driver.Scheduled.Scheduled, DxeMachine.DxeMachine, DxeChoice.driver_queue, DxeStep.dxe_step}
use Rattle.boot_model.specs.{DxeRun.dxe_run, DxeRun.dxe_opening, DriverLicence.numbers_of, DriverLicence.StandBeside}
use Rattle.boot_laws.specs.DriverLicences.{group_of}

-- the drivers that have started, in order of their starts
abbrev pub starts : DxeMachine → List ℕ
starts m = reverse m.started

-- no driver has started, and new drivers have joined the end of the queue
pub record HasJoined (old new : DxeMachine) : Type 0 where
  pub more : List Scheduled
  pub queue : new.scheduled ≡ old.scheduled ++ more
  pub started : new.started ≡ old.started

-- no script runs, and the head has started: that of the queue, or if the queue is empty that of the group of the first eligible driver
pub record HasStarted (catalog : Catalog) (old new : DxeMachine) : Type 0 where
  pub next : Scheduled
  pub idle : old.frames ≡ []
  pub queue : driver_queue catalog old ≡ next ∷ new.scheduled
  pub started : new.started ≡ next.module_number ∷ old.started

-- a step does one of the two
abbrev pub KeepsOrder : Catalog → DxeMachine → DxeMachine → Type 0
KeepsOrder catalog old new = HasJoined old new ⊎ HasStarted catalog old new

-- the machine after so many steps of a run, from the store of a hand-off
abbrev pub machine_after : Catalog → (fuel steps : ℕ) → StoreState → ℕ → DxeMachine
machine_after catalog fuel steps s actions = dxe_run catalog fuel steps (dxe_opening catalog s actions)

-- for each machine of a run, if each volume's parent comes before it, as in every well-formed catalogue
abbrev pub QueuesKeepTheirOrder : Type 0
QueuesKeepTheirOrder =
    (catalog : Catalog) → AreNumbered 0 catalog.volumes → (fuel steps : ℕ) (s : StoreState) (actions : ℕ)
    → KeepsOrder catalog (machine_after catalog fuel steps s actions) (dxe_step catalog fuel (machine_after catalog fuel steps s actions))

-- a front of the queue has started since, and the rest is in the queue, with new drivers after
pub record PartHasStarted (queue : List Scheduled) (old new : DxeMachine) : Type 0 where
  pub begun : List Scheduled
  pub left : List Scheduled
  pub more : List Scheduled
  pub split : queue ≡ begun ++ left
  pub started : starts new ≡ starts old ++ numbers_of begun
  pub queue_is : new.scheduled ≡ left ++ more

-- all of the queue has started since, and then others
pub record AllHaveStarted (queue : List Scheduled) (old new : DxeMachine) : Type 0 where
  pub later : List ℕ
  pub started : starts new ≡ starts old ++ (numbers_of queue ++ later)

abbrev pub StartsInOrder : List Scheduled → DxeMachine → DxeMachine → Type 0
StartsInOrder queue old new = PartHasStarted queue old new ⊎ AllHaveStarted queue old new

-- what is in the queue of a machine of a run starts in that order in the machines after it, and nothing starts between
abbrev pub QueuesStartInOrder : Type 0
QueuesStartInOrder =
    (catalog : Catalog) → AreNumbered 0 catalog.volumes → (fuel steps more : ℕ) (s : StoreState) (actions : ℕ)
    → let m = machine_after catalog fuel steps s actions in StartsInOrder m.scheduled m (dxe_run catalog fuel more m)

-- two neighbours in the group that a machine schedules start next to each other:
-- whenever the second has started later, the first has started before it, and between them only companions of either
abbrev pub CompanionsStartBeside : Type 0
CompanionsStartBeside =
    (catalog : Catalog) → AreNumbered 0 catalog.volumes → (fuel steps more : ℕ) (s : StoreState) (actions first second : ℕ)
    → let m = machine_after catalog fuel steps s actions in
    let later = dxe_run catalog fuel more m in m.frames ≡ [] → m.scheduled ≡ []
    → StandBeside catalog m (numbers_of (group_of catalog m)) first second
    → has_number (starts later) second ≡ true → StandBeside catalog m (starts later) first second
