-- The licences of drivers. A driver has its licence in the machine in which it is scheduled: a place in its volume's a priori list, a dependency expression
-- that allows it, or a place next to the driver that it names. DXE stops only when no driver may start. PI 1.8, volume 2, "DXE Dispatcher".
use Rattle.std.specs.Prelude.{◌≡◌, ◌⊎◌, ℕ, zero, suc, true, false, List, [], ◌∷◌, ◌++◌, map, Option, Some, None, is_some, option_and_then}
use Rattle.std.specs.List.{list_all}
use Rattle.pi_base.specs.{declared.guid.Guid.Guid, declared.phase.Phase.TheVariants.Dxe, Lists.Each}
use Rattle.depex_code.specs.declared.depex.Depex.{Depex}
use Rattle.mod_catalog.specs.{declared.catalogue.Catalog.Catalog, declared.catalogue.Part.Part, declared.catalogue.PartExpr.PartExpr}
use Rattle.mod_catalog.specs.declared.catalogue.PartExpr.TheVariants as E
use Rattle.mod_catalog.specs.Parts.{has_number, part_at}
use Rattle.store_model.specs.HandleState.{has_protocol}
use Rattle.boot_model.specs.{declared.known_guid.TheConstants.ARCHITECTURAL, declared.licence.Licence.Licence, Eligible.depex_holds}
use Rattle.boot_model.specs.declared.licence.Licence.TheVariants as G
use Rattle.boot_model.specs.{Licence.IsPartAmong, DxeMachine.DxeMachine, DxeMachine.Scheduled, DxeStep.dxe_case_of, DxeStep.DxeStops}
use Rattle.boot_model.specs.DxeChoice.{driver_named, name_by, before_of, after_of, is_unrequested, is_eligible_driver, group_scheduled, first_eligible}

-- the driver that a driver's expression names by a form, and by either form
abbrev pub named_by : (PartExpr → Option Guid) → Catalog → DxeMachine → ℕ → Option ℕ
named_by form catalog m number = option_and_then (driver_named catalog m) (name_by form catalog number)

-- the first of two that is there
abbrev pub first_of : Option ℕ → Option ℕ → Option ℕ
first_of (Some a) other = Some a
first_of None other = other

-- the driver that a driver is a companion of: an expression has one of the two forms
abbrev pub target_of : Catalog → DxeMachine → ℕ → Option ℕ
target_of catalog m number = first_of (named_by before_of catalog m number) (named_by after_of catalog m number)

-- so many names, each that of the driver before it, lead from z to x
abbrev pub Leads : (ℕ → Option ℕ) → ℕ → ℕ → ℕ → Type 0
Leads target x z zero = z ≡ x
Leads target x z (suc k) = (y : ℕ) × (target z ≡ Some y) × Leads target x y k

-- a companion of a driver, or of its companions, at any depth
abbrev pub IsCompanionOf : Catalog → DxeMachine → ℕ → ℕ → Type 0
IsCompanionOf catalog m x z = (k : ℕ) × Leads (target_of catalog m) x z (suc k)

-- in a queue one driver is before another, and between them only companions of either
pub record StandBeside (catalog : Catalog) (m : DxeMachine) (queue : List ℕ) (first second : ℕ) : Type 0 where
  pub front : List ℕ
  pub between : List ℕ
  pub back : List ℕ
  pub split : queue ≡ front ++ first ∷ (between ++ second ∷ back)
  pub companions : Each (λ n. IsCompanionOf catalog m first n ⊎ IsCompanionOf catalog m second n) between

-- a driver is before the one that its BEFORE names
abbrev pub IsBeforeNamed : Catalog → DxeMachine → List ℕ → ℕ → Type 0
IsBeforeNamed catalog m queue number = (target : ℕ) × (named_by before_of catalog m number ≡ Some target) × StandBeside catalog m queue number target

-- a driver is after the one that its AFTER names
abbrev pub IsAfterNamed : Catalog → DxeMachine → List ℕ → ℕ → Type 0
IsAfterNamed catalog m queue number = (target : ℕ) × (named_by after_of catalog m number ≡ Some target) × StandBeside catalog m queue target number

-- the licence of a driver that is scheduled in a machine, in this queue; one with SOR was requested
abbrev pub IsDriverLicensed : Catalog → DxeMachine → List ℕ → ℕ → Part → Licence → Type 0
IsDriverLicensed catalog m queue number part G.Apriori = is_some part.rank ≡ true
IsDriverLicensed catalog m queue number part G.Absent = (part.expr ≡ E.Absent) × (list_all (has_protocol m.handles) ARCHITECTURAL ≡ true)
IsDriverLicensed catalog m queue number part G.True =
    (expression : Depex) × (part.expr ≡ E.Held expression) × (is_unrequested catalog m number ≡ false) × (depex_holds (has_protocol m.handles) expression ≡ true)
IsDriverLicensed catalog m queue number part G.Shadow = ⊥
IsDriverLicensed catalog m queue number part G.Before = IsBeforeNamed catalog m queue number
IsDriverLicensed catalog m queue number part G.After = IsAfterNamed catalog m queue number

-- the modules of a queue
abbrev pub numbers_of : List Scheduled → List ℕ
numbers_of queue = map (λ next. next.module_number) queue

-- a driver of a queue is one of the catalogue, and has its licence in this machine
abbrev pub IsMember : Catalog → DxeMachine → List Scheduled → Scheduled → Type 0
IsMember catalog m queue next =
    (part : Part) × (part_at Dxe catalog next.module_number ≡ Some part) × IsDriverLicensed catalog m (numbers_of queue) next.module_number part next.licence

-- each driver of a group that is scheduled from here has its licence
abbrev pub SchedulesLicensed : Catalog → DxeMachine → Type 0
SchedulesLicensed catalog m = Each (IsMember catalog m (group_scheduled catalog m (first_eligible catalog m))) (group_scheduled catalog m (first_eligible catalog m))

-- a driver of a volume that was discovered
abbrev pub IsDiscovered : Catalog → DxeMachine → ℕ → Type 0
IsDiscovered catalog m number = IsPartAmong Dxe catalog m.discovered number

-- if DXE stops from here, nothing is scheduled, and no driver of a discovered volume that has not started may start
pub record IsIdle (catalog : Catalog) (m : DxeMachine) : Type 0 where
  pub scheduled : m.scheduled ≡ []
  pub waits : (number : ℕ) → IsDiscovered catalog m number → has_number m.started number ≡ false → is_eligible_driver catalog m number ≡ false

-- a stop of DXE leaves no driver that may start
abbrev pub DxeStopsIdle : Catalog → DxeMachine → Type 0
DxeStopsIdle catalog m = dxe_case_of catalog m ≡ DxeStops → IsIdle catalog m
