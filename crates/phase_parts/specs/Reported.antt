-- What the PPIs of a store report (PI 1.8, volume 1, `EFI_PEI_FIRMWARE_VOLUME_INFO_PPI`), by their descriptors.
use Rattle.std.specs.Prelude.{◌≡◌, ℕ, List, ◌++◌, Option, option_and_then}
use Rattle.mod_catalog.specs.declared.catalogue.Catalog.{Catalog}
use Rattle.pi_base.specs.Lists.{Each}
use Rattle.store_model.specs.{declared.store_handle.Desc.Desc, StoreState.StoreState, Service.Descriptor.offsets, StateFacts.IsDesc}
use Rattle.store_model.specs.MemoryReading.{bytes_at}
use Rattle.boot_model.specs.Reporting.{told_by, reports, volume_info_len}

-- the volume to which the volume information at an address refers
abbrev pub volume_of_info : Catalog → StoreState → ℕ → Option ℕ
volume_of_info catalog s address = option_and_then (told_by catalog) (bytes_at s address volume_info_len)

-- the volumes that are known, and after them those that these PPIs report
abbrev pub with_reports : Catalog → StoreState → List ℕ → List Desc → List ℕ
with_reports catalog s known ppis = known ++ reports catalog s known (offsets ppis)

abbrev pub IsWithReports : Catalog → List ℕ → List Desc → List ℕ → StoreState → Type 0
IsWithReports catalog known ppis now s = now ≡ with_reports catalog s known ppis

-- each of these is a descriptor of the store
abbrev pub AreDescs : List Desc → StoreState → Type 0
AreDescs ppis s = Each (IsDesc s) ppis
