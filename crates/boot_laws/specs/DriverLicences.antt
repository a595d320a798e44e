-- In every run of DXE each start has its licence, and DXE stops only when no driver may start.
-- A driver starts at the head of the queue. It came there as an a priori driver of a volume that was discovered, or from a machine of the run in which nothing
-- was scheduled and no script ran, as one of the group of its first eligible driver. PI 1.8, volume 2, "DXE Dispatcher" and "A Priori File".
use Rattle.std.specs.Prelude.{◌≡◌, ◌⊎◌, ℕ, zero, suc, true, List, [], ◌∷◌, Some, None, is_some, ⊤}
use Rattle.pi_base.specs.{declared.phase.Phase.TheVariants.Dxe, Lists.Each}
use Rattle.mod_catalog.specs.{declared.catalogue.Catalog.Catalog, declared.catalogue.Part.Part}
use Rattle.boot_model.specs.{declared.driver.Scheduled.Scheduled, DxeMachine.DxeMachine, DxeRun.dxe_opening}
use Rattle.boot_model.specs.declared.licence.Licence.TheVariants as G
use Rattle.store_model.specs.StoreState.{StoreState}
use Rattle.mod_catalog.specs.Parts.{has_number, part_at, module_volume}
use Rattle.boot_model.specs.DxeChoice.{driver_queue, group_scheduled, first_eligible}
use Rattle.boot_model.specs.DxeStep.{dxe_case_of, dxe_step, DxeStarts}
use Rattle.boot_model.specs.DriverLicence.{IsMember, SchedulesLicensed, DxeStopsIdle}

-- the fact holds of one of these
abbrev pub OneOf : {A : Type 0} → (A → Type 0) → List A → Type 0
OneOf P [] = ⊥
OneOf P (a ∷ rest) = P a ⊎ OneOf P rest

-- a driver with a place in the a priori list of its volume, which is among those discovered
pub record IsApriori (catalog : Catalog) (discovered : List ℕ) (next : Scheduled) : Type 0 where
  pub part : Part
  pub is : part_at Dxe catalog next.module_number ≡ Some part
  pub ranked : is_some part.rank ≡ true
  pub licence : next.licence ≡ G.Apriori
  pub volume : has_number discovered (module_volume catalog next.module_number) ≡ true

-- the group that is scheduled from a machine in which nothing is scheduled
abbrev pub group_of : Catalog → DxeMachine → List Scheduled
group_of catalog m = group_scheduled catalog m (first_eligible catalog m)

-- a driver is scheduled from a machine with its group, and there it has its licence
pub record IsScheduledFrom (catalog : Catalog) (next : Scheduled) (m : DxeMachine) : Type 0 where
  pub idle : m.frames ≡ []
  pub empty : m.scheduled ≡ []
  pub member : OneOf (λ other. other ≡ next) (group_of catalog m)
  pub licensed : IsMember catalog m (group_of catalog m) next

-- a driver that is scheduled has its licence from one of the machines before, or from its volume's list
abbrev pub WasLicensed : Catalog → List DxeMachine → List ℕ → Scheduled → Type 0
WasLicensed catalog past discovered next = IsApriori catalog discovered next ⊎ OneOf (IsScheduledFrom catalog next) past

-- a machine of a run, with the machines before it: what it schedules and has scheduled is licensed, so what starts at the head of the queue is, and if DXE stops from it no driver may start
pub record IsLicensedDxeStep (catalog : Catalog) (past : List DxeMachine) (m : DxeMachine) : Type 0 where
  pub schedules : SchedulesLicensed catalog m
  pub queue : Each (WasLicensed catalog past m.discovered) m.scheduled
  pub heads : (next : Scheduled) (queue : List Scheduled) → dxe_case_of catalog m ≡ DxeStarts next queue → driver_queue catalog m ≡ next ∷ queue
  pub starts : (next : Scheduled) (queue : List Scheduled) → dxe_case_of catalog m ≡ DxeStarts next queue → WasLicensed catalog (m ∷ past) m.discovered next
  pub stops : DxeStopsIdle catalog m

-- P holds of each machine of the run from which a step is taken, with the machines before it
abbrev pub AlongDxeRun : Catalog → ℕ → (List DxeMachine → DxeMachine → Type 0) → ℕ → List DxeMachine → DxeMachine → Type 0
AlongDxeRun catalog fuel P zero past m = ⊤
AlongDxeRun catalog fuel P (suc n) past m = elim m.ended [ Some end ↦ ⊤ | None ↦ P past m × AlongDxeRun catalog fuel P n (m ∷ past) (dxe_step catalog fuel m) ]

abbrev pub DriversStartLicensed : Type 0
DriversStartLicensed =
    (catalog : Catalog) (fuel n : ℕ) (s : StoreState) (actions : ℕ) → AlongDxeRun catalog fuel (IsLicensedDxeStep catalog) n [] (dxe_opening catalog s actions)
