-- The discovered volumes, their drivers in discovered order, the first driver of each file name, and for each file name the drivers whose BEFORE or AFTER has
-- it and those of this name that wait for a request, in discovered order. PI 1.8, volume 2, "DXE Dispatcher", "Dependency Expressions" and `Schedule()`; that
-- they are kept by name is own.
use Rattle.std.specs.Prelude.{◌≡◌, ℕ, Bool, false, ◌&&◌, if◌then◌else◌, List, [], ◌++◌, Option, Some, None, is_none, find, filter, unwrap_or}
use Rattle.pi_base.specs.{declared.phase.Phase.TheVariants.Dxe, declared.guid.Guid.Guid, Guids.same_guid, GuidMap.value_of}
use Rattle.mod_catalog.specs.{declared.catalogue.Catalog.Catalog, declared.catalogue.PartExpr.PartExpr}
use Rattle.mod_catalog.specs.Parts.{part_at, rank_at, module_name}
use Rattle.boot_model.specs.DxeChoice.{drivers_of, name_by, before_of, after_of, asks_for_request}
use Rattle.boot_model.specs.Reporting.{newcomers}
use Rattle.phase_parts.specs.Known.{AreKnown}

-- what is kept, with what is found by a file name: the first driver, those before it, those after it, and those that a request is waited for
pub record Drivers : Type 0 where
  pub volumes : List ℕ
  pub drivers : List ℕ
  pub first : List (Guid × ℕ)
  pub befores : List (Guid × List ℕ)
  pub afters : List (Guid × List ℕ)
  pub asking : List (Guid × List ℕ)

-- the numbers of a name
abbrev pub numbers_at : List (Guid × List ℕ) → Guid → List ℕ
numbers_at lists name = unwrap_or (value_of lists name) []

-- the first driver of a file name
abbrev pub first_driver : Drivers → Guid → Option ℕ
first_driver order name = value_of order.first name

-- the drivers whose BEFORE has a file name
abbrev pub befores_of : Drivers → Guid → List ℕ
befores_of order name = numbers_at order.befores name

-- the drivers whose AFTER has it
abbrev pub afters_of : Drivers → Guid → List ℕ
afters_of order name = numbers_at order.afters name

-- the drivers of a file name that a request is waited for
abbrev pub asking_of : Drivers → Guid → List ℕ
asking_of order name = numbers_at order.asking name

-- whether a driver's BEFORE, or its AFTER, has this name
abbrev pub gives : Guid → Option Guid → Bool
gives name None = false
gives name (Some other) = same_guid other name

-- those of these drivers that give a name
abbrev pub givers : (PartExpr → Option Guid) → Catalog → List ℕ → Guid → List ℕ
givers form catalog drivers name = filter (λ number. gives name (name_by form catalog number)) drivers

-- the file name of a driver that a request is waited for: its expression begins with SOR, and its volume's a priori list has it not
abbrev pub name_asked : Catalog → ℕ → Option Guid
name_asked catalog number = if is_none (rank_at Dxe catalog number) && asks_for_request (part_at Dxe catalog number) then Some (module_name catalog number) else None

-- those of these drivers that have a file name and that a request is waited for
abbrev pub askers : Catalog → List ℕ → Guid → List ℕ
askers catalog drivers name = filter (λ number. gives name (name_asked catalog number)) drivers

-- what is kept is that of these volumes
pub record IsOrderOf (catalog : Catalog) (volumes : List ℕ) (order : Drivers) : Type 0 where
  pub known : AreKnown catalog volumes
  pub volumes_are : order.volumes ≡ volumes
  pub drivers_are : order.drivers ≡ drivers_of catalog volumes
  pub first_is : (name : Guid) → first_driver order name ≡ find (λ number. same_guid (module_name catalog number) name) (drivers_of catalog volumes)
  pub befores_are : (name : Guid) → befores_of order name ≡ givers before_of catalog (drivers_of catalog volumes) name
  pub afters_are : (name : Guid) → afters_of order name ≡ givers after_of catalog (drivers_of catalog volumes) name
  pub asking_are : (name : Guid) → asking_of order name ≡ askers catalog (drivers_of catalog volumes) name

-- what is kept of some volumes has become that of these volumes and others after them: one that is new, and each nested in it that is
abbrev pub OrderGrows : Catalog → Drivers → ℕ → Drivers → Type 0
OrderGrows catalog old volume new =
    (volumes : List ℕ) → IsOrderOf catalog volumes old → IsOrderOf catalog (volumes ++ newcomers catalog volumes (Some volume)) new
