-- The choice of a driver: if nothing runs and nothing is scheduled, the group of any driver that waits and may start is scheduled, and the machine continues
-- from there. From the first of a group the names after BEFORE and AFTER lead to its driver.
-- Own; PI 1.8, volume 2, "DXE Dispatcher", leaves the order to the dispatcher.
use Rattle.std.specs.Prelude.{◌≡◌, ◌≢◌, ℕ, zero, suc, ◌≤◌, List, [], ◌∷◌, ◌++◌, Some, None, length}
use Rattle.pi_base.specs.declared.phase.Phase.TheVariants.{Dxe}
use Rattle.mod_catalog.specs.{declared.catalogue.Catalog.Catalog, declared.catalogue.Part.Part, Parts.part_at}
use Rattle.boot_model.specs.{declared.line.Line.Line, PeiMachine.PeiMachine, declared.driver.Scheduled.Scheduled, DxeMachine.DxeMachine}
use Rattle.boot_model.specs.DxeChoice.{waiting, companion_group, first_eligible, group_scheduled, driver_licence}
use Rattle.boot_model.specs.DriverLicence.{target_of}
use Rattle.boot_model.specs.DxeStep.{DxeStarts, DxeStops, dxe_case_of, dxe_step, dxe_start_line}
use Rattle.boot_model.specs.FreeRun.{MaySchedule, IsFreeInDxe, AreFreeDxeLines}
use Rattle.boot_laws.specs.DxeUnderWay.{IsUnderWay, steps_left}

-- the machine in which the group of this driver is scheduled
abbrev pub aimed : Catalog → DxeMachine → ℕ → DxeMachine
aimed catalog m root = record m { scheduled = group_scheduled catalog m (Some root) }

-- the machine chooses: nothing runs, and nothing is scheduled
pub record IsChoosing (m : DxeMachine) : Type 0 where
  pub going : m.ended ≡ None
  pub frames : m.frames ≡ []
  pub scheduled : m.scheduled ≡ []

-- the first of a driver's group starts, by the licence of its expression
pub record StartsFirstOf (catalog : Catalog) (m : DxeMachine) (root : ℕ) : Type 0 where
  pub first : Scheduled
  pub queue : List Scheduled
  pub group : group_scheduled catalog m (Some root) ≡ first ∷ queue
  pub others : List ℕ
  pub numbers : companion_group catalog m root ≡ first.module_number ∷ others
  pub licence : first.licence ≡ driver_licence (part_at Dxe catalog first.module_number)
  pub starts : dxe_case_of catalog (aimed catalog m root) ≡ DxeStarts first queue

-- what scheduling a group changes
pub record IsAimed (catalog : Catalog) (m : DxeMachine) (root : ℕ) : Type 0 where
  pub starts : StartsFirstOf catalog m root
  pub step : (fuel : ℕ) → IsFreeInDxe catalog fuel m (dxe_case_of catalog m) (dxe_step catalog fuel (aimed catalog m root))
  pub way : IsUnderWay catalog m → IsUnderWay catalog (aimed catalog m root)
  pub left : (fuel : ℕ) → steps_left catalog fuel (aimed catalog m root) ≡ steps_left catalog fuel m

abbrev pub GroupsAreAimed : Type 0
GroupsAreAimed = (catalog : Catalog) (m : DxeMachine) (root : ℕ) → IsChoosing m → MaySchedule catalog m root → IsAimed catalog m root

-- the free boots from there are free boots from here
abbrev pub AimIsFree : Type 0
AimIsFree = (catalog : Catalog) (fuel : ℕ) (pei : PeiMachine) (m : DxeMachine) (root : ℕ) → IsChoosing m → MaySchedule catalog m root
    → (lines : List Line)
    → AreFreeDxeLines catalog fuel pei (aimed catalog m root) lines → AreFreeDxeLines catalog fuel pei m lines

-- some driver that may is scheduled with its group, and these are the lines of a free boot from there
abbrev pub AreLinesOfAim : Catalog → ℕ → PeiMachine → DxeMachine → List Line → Type 0
AreLinesOfAim catalog fuel pei m lines =
    (root : ℕ) × MaySchedule catalog m root × AreFreeDxeLines catalog fuel pei (aimed catalog m root) lines

-- if any driver may start, each free boot is one of these
abbrev pub DxeStartsFreely : Type 0
DxeStartsFreely = (catalog : Catalog) (fuel : ℕ) (pei : PeiMachine) (m : DxeMachine) → IsChoosing m → first_eligible catalog m ≢ None
    → (lines : List Line)
    → AreFreeDxeLines catalog fuel pei m lines → AreLinesOfAim catalog fuel pei m lines

-- the driver that the machine finds may start; if it finds none, it stops and no driver may start
pub record IsFirstEligible (catalog : Catalog) (m : DxeMachine) : Type 0 where
  pub found : (root : ℕ) → first_eligible catalog m ≡ Some root → MaySchedule catalog m root
  pub none : (root : ℕ) → first_eligible catalog m ≡ None → MaySchedule catalog m root → ⊥
  pub stops : IsChoosing m → first_eligible catalog m ≡ None → dxe_case_of catalog m ≡ DxeStops

abbrev pub FirstEligibleMayStart : Type 0
FirstEligibleMayStart = (catalog : Catalog) (m : DxeMachine) → IsFirstEligible catalog m

-- a driver that starts has its start line printed first
pub record PrintsStart (catalog : Catalog) (fuel : ℕ) (m : DxeMachine) (next : Scheduled) : Type 0 where
  pub part : Part
  pub part_is : part_at Dxe catalog next.module_number ≡ Some part
  pub rest : List Line
  pub lines : (dxe_step catalog fuel m).lines ≡ m.lines ++ dxe_start_line catalog next.module_number next.licence ∷ rest

abbrev pub DxeStartsPrint : Type 0
DxeStartsPrint = (catalog : Catalog) (fuel : ℕ) (m : DxeMachine) (next : Scheduled) (queue : List Scheduled) → IsUnderWay catalog m
    → dxe_case_of catalog m ≡ DxeStarts next queue → PrintsStart catalog fuel m next

-- the driver to which so many names lead from a driver; if there is no name it stays
abbrev pub follows : Catalog → DxeMachine → ℕ → ℕ → ℕ
follows catalog m zero number = number
follows catalog m (suc n) number = elim (target_of catalog m number) [ None ↦ number | Some target ↦ follows catalog m n target ]

-- the names lead from the first of a group to its driver, which names no other
pub record LeadsToRoot (catalog : Catalog) (m : DxeMachine) (root first : ℕ) : Type 0 where
  pub leads : (n : ℕ) → length (waiting catalog m) ≤ n → follows catalog m n first ≡ root
  pub ends : target_of catalog m root ≡ None

abbrev pub NamesLeadToRoot : Type 0
NamesLeadToRoot = (catalog : Catalog) (m : DxeMachine) (root first : ℕ) (rest : List ℕ) → MaySchedule catalog m root
    → companion_group catalog m root ≡ first ∷ rest → LeadsToRoot catalog m root first
