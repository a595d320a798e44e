-- What holds of every free run of DXE, whichever of the eligible drivers the dispatcher schedules with its group. No driver starts twice. Each driver that
-- starts had its licence when it was scheduled: a place in its volume's a priori list, an expression that allowed it, or a place next to the driver that its
-- BEFORE or AFTER names. DXE stops only when no driver may start. PI 1.8, volume 2, "DXE Dispatcher", "A Priori File" and "Dependency Expressions".
use Rattle.std.specs.Prelude.{◌≡◌, ◌⊎◌, ℕ, true, List, [], ◌∷◌, Some, ⊤}
use Rattle.pi_base.specs.{declared.phase.Phase.TheVariants.Dxe, Lists.Each}
use Rattle.mod_catalog.specs.{declared.catalogue.Catalog.Catalog, declared.catalogue.Part.Part, Parts.has_number, Parts.part_at}
use Rattle.mod_catalog.specs.WellFormed.{AreNumbered}
use Rattle.store_model.specs.StoreState.{StoreState}
use Rattle.boot_model.specs.{Licence.AllDiffer, DxeChoice.companion_group, DxeChoice.group_scheduled, DxeMachine.DxeMachine}
use Rattle.boot_model.specs.DriverLicence.{DxeStopsIdle, IsMember, StandBeside}
use Rattle.boot_model.specs.{declared.driver.Scheduled.Scheduled, DxeRun.dxe_opening, DxeStep.driver_started_by}
use Rattle.boot_model.specs.FreeRun.{IsFreeDxeRun, IsStarted, MaySchedule}
use Rattle.boot_laws.specs.{DriverLicences.IsApriori, DriverLicences.OneOf, QueueOrder.starts}
use Rattle.free_laws.specs.FreePei.{EachStep}

-- in every free run of DXE no driver has started twice in any machine, if each volume's parent comes before it, as in every well-formed catalogue
abbrev pub FreeDriversStartOnce : Type 0
FreeDriversStartOnce = (catalog : Catalog) → AreNumbered 0 catalog.volumes → (fuel : ℕ) (s : StoreState) (actions : ℕ) (run : List DxeMachine)
    → IsFreeDxeRun catalog fuel (dxe_opening catalog s actions) run → Each (λ m. AllDiffer m.started) run

-- DXE stops only when nothing is scheduled and no driver of a discovered volume that has not started may start
abbrev pub FreeDxeStopsIdle : Type 0
FreeDxeStopsIdle = (catalog : Catalog) (fuel : ℕ) (s : StoreState) (actions : ℕ) (run : List DxeMachine)
    → IsFreeDxeRun catalog fuel (dxe_opening catalog s actions) run → EachStep (λ m later. DxeStopsIdle catalog m) (dxe_opening catalog s actions) run

-- a driver is scheduled from a machine in which no script runs and nothing is scheduled, with the group of a driver that may start; there it has its licence
pub record IsScheduledFrom (catalog : Catalog) (next : Scheduled) (m : DxeMachine) : Type 0 where
  pub idle : m.frames ≡ []
  pub empty : m.scheduled ≡ []
  pub root : ℕ
  pub may : MaySchedule catalog m root
  pub member : OneOf (λ other. other ≡ next) (group_scheduled catalog m (Some root))
  pub licensed : IsMember catalog m (group_scheduled catalog m (Some root)) next

-- a driver has its licence from its volume's a priori list, or from one of the machines before
abbrev pub WasLicensed : Catalog → List DxeMachine → List ℕ → Scheduled → Type 0
WasLicensed catalog past discovered next = IsApriori catalog discovered next ⊎ OneOf (IsScheduledFrom catalog next) past

-- a driver has started, by the licence that it had when it was scheduled
pub record HasStarted (catalog : Catalog) (past : List DxeMachine) (m later : DxeMachine) : Type 0 where
  pub next : Scheduled
  pub queue : List Scheduled
  pub part : Part
  pub part_is : part_at Dxe catalog next.module_number ≡ Some part
  pub licensed : WasLicensed catalog (m ∷ past) m.discovered next
  pub later_is : later ≡ driver_started_by catalog m next queue part

-- a step starts no driver, or one with its licence
abbrev pub StartsLicensed : Catalog → List DxeMachine → DxeMachine → DxeMachine → Type 0
StartsLicensed catalog past m later = (later.started ≡ m.started) ⊎ HasStarted catalog past m later

-- P holds of each two machines of a run that follow each other, with the machines before them, the last of them first
abbrev pub EachStepAfter : {M : Type 0} → (List M → M → M → Type 0) → List M → M → List M → Type 0
EachStepAfter P past m [] = ⊤
EachStepAfter P past m (later ∷ rest) = P past m later × EachStepAfter P (m ∷ past) later rest

abbrev pub FreeDriversStartLicensed : Type 0
FreeDriversStartLicensed = (catalog : Catalog) (fuel : ℕ) (s : StoreState) (actions : ℕ) (run : List DxeMachine)
    → IsFreeDxeRun catalog fuel (dxe_opening catalog s actions) run → EachStepAfter (StartsLicensed catalog) [] (dxe_opening catalog s actions) run

-- the group of a driver starts from here: no script runs, nothing is scheduled, the driver may start, and the first of its group has started
pub record BeginsGroup (catalog : Catalog) (m later : DxeMachine) (root : ℕ) : Type 0 where
  pub idle : m.frames ≡ []
  pub empty : m.scheduled ≡ []
  pub may : MaySchedule catalog m root
  pub begins : IsStarted catalog m (group_scheduled catalog m (Some root)) later

-- once the second of two drivers has started, the first has started before it, and between them only companions of either
abbrev pub HaveStartedBeside : Catalog → DxeMachine → ℕ → ℕ → DxeMachine → Type 0
HaveStartedBeside catalog m first second later = has_number (starts later) second ≡ true → StandBeside catalog m (starts later) first second

-- if a group starts from here, two that are next to each other in it start so in all machines that follow
abbrev pub NeighboursStartBeside : Catalog → DxeMachine → List DxeMachine → Type 0
NeighboursStartBeside catalog m [] = ⊤
NeighboursStartBeside catalog m (later ∷ rest) = (root first second : ℕ) → BeginsGroup catalog m later root
    → StandBeside catalog m (companion_group catalog m root) first second → Each (HaveStartedBeside catalog m first second) (later ∷ rest)

-- P holds of each machine of a run and those that follow it
abbrev pub EachWithRest : {M : Type 0} → (M → List M → Type 0) → M → List M → Type 0
EachWithRest P m [] = ⊤
EachWithRest P m (later ∷ rest) = P m (later ∷ rest) × EachWithRest P later rest

abbrev pub FreeCompanionsStartBeside : Type 0
FreeCompanionsStartBeside = (catalog : Catalog) → AreNumbered 0 catalog.volumes → (fuel : ℕ) (s : StoreState) (actions : ℕ) (run : List DxeMachine)
    → IsFreeDxeRun catalog fuel (dxe_opening catalog s actions) run → EachWithRest (NeighboursStartBeside catalog) (dxe_opening catalog s actions) run
