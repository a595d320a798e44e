-- What is kept of drivers by the names of files.
-- PI 1.8, volume 2, "Dependency Expressions"; that they are kept by name is own.
use Rattle.std.specs.Prelude.{◌≡◌, ℕ, if◌then◌else◌, List, ◌++◌, Option, Some, None, find, is_some}
use Rattle.pi_base.specs.{GuidMap.value_of, declared.guid.Guid.Guid, Guids.same_guid}
use Rattle.mod_catalog.specs.{declared.catalogue.Catalog.Catalog, Parts.module_name}
use Rattle.boot_model.specs.DxeChoice.{before_of, after_of}
use Rattle.dxe_core.specs.{declared.names.Names.Names, Lists.lists_of, Lists.numbers_under}
use Rattle.dxe_core.specs.Order.{Drivers, givers, askers}

-- the first of these drivers that has a file name
abbrev pub first_named : Catalog → List ℕ → Guid → Option ℕ
first_named catalog drivers name = find (λ number. same_guid (module_name catalog number) name) drivers

-- a name that had no number has this one, and each other name what it had
abbrev pub IsFirstOfName : List (Guid × ℕ) → Guid → ℕ → List (Guid × ℕ) → Type 0
IsFirstOfName old name number new =
    (other : Guid)
    → value_of new other ≡ (if is_some (value_of old other) then value_of old other else if same_guid name other then Some number else None)

-- what is kept is that of these drivers
pub record AreDriverNames (catalog : Catalog) (drivers : List ℕ) (names : Names) : Type 0 where
  pub first_is : (name : Guid) → value_of names.first name ≡ first_named catalog drivers name
  pub befores_are : (name : Guid) → numbers_under names.befores name ≡ givers before_of catalog drivers name
  pub afters_are : (name : Guid) → numbers_under names.afters name ≡ givers after_of catalog drivers name
  pub asking_are : (name : Guid) → numbers_under names.asking name ≡ askers catalog drivers name

-- the names of some drivers have become those of these drivers and others after them
abbrev pub NamesGrow : Catalog → Names → List ℕ → Names → Type 0
NamesGrow catalog old more new = (drivers : List ℕ) → AreDriverNames catalog drivers old → AreDriverNames catalog (drivers ++ more) new

-- the volumes, their drivers and the names of these
abbrev pub order_by : List ℕ → List ℕ → Names → Drivers
order_by volumes drivers names = record {
  volumes = volumes;
  drivers = drivers;
  first = names.first;
  befores = lists_of names.befores;
  afters = lists_of names.afters;
  asking = lists_of names.asking;
}
