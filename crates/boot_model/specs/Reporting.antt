-- The volumes that a call reports. A PPI with the GUID of the volume information refers to the volume at an address. If that is a catalogued volume that was
-- not reported, it is reported, and after it each volume nested in it. PI 1.8, volume 1, `EFI_PEI_FIRMWARE_VOLUME_INFO_PPI`; that the core reports nested
-- volumes by itself is own.
use Rattle.std.specs.Prelude.{ℕ, Bool, ◌||◌, not, if◌then◌else◌, List, [], ◌∷◌, ◌++◌, Option, Some, None, filter, option_and_then, drop}
use Rattle.pi_base.specs.{declared.guid.Guid.Guid, Field.little_number, declared.known_guid.TheConstants.VOLUME_INFO_PPI, Guids.same_guid}
use Rattle.mod_catalog.specs.declared.catalogue.Catalog.{Catalog}
use Rattle.boot_model.specs.declared.known_guid.TheConstants.{FILE_SYSTEM2, FILE_SYSTEM3}
use Rattle.pi_base.specs.Guids as Guids
use Rattle.store_model.specs.{StoreState.StoreState, MemoryReading.bytes_at, Service.Descriptor.guid_at, Service.Descriptor.number_at}
use Rattle.mod_catalog.specs.Parts.{has_number, family, volume_at}

-- the bytes of the PPI
abbrev pub volume_info_len : ℕ
volume_info_len = 48

-- the offset of FvInfo in the bytes of the PPI, after its FvFormat
abbrev pub volume_info_at : ℕ
volume_info_at = 16

-- whether FvFormat is that of FFS2 or FFS3
abbrev pub is_file_system : Guid → Bool
is_file_system guid = same_guid guid FILE_SYSTEM2 || same_guid guid FILE_SYSTEM3

-- the volume to which these bytes refer
abbrev pub told_by : Catalog → List ℕ → Option ℕ
told_by catalog bytes = if is_file_system (Guids.guid_at bytes 0) then volume_at catalog (little_number 8 (drop volume_info_at bytes)) else None

-- the volume to which the PPI whose descriptor is at a place refers
abbrev pub told_at : Catalog → StoreState → ℕ → Option ℕ
told_at catalog s place =
    if same_guid (guid_at s place) VOLUME_INFO_PPI
    then option_and_then (told_by catalog) (bytes_at s (number_at s place) volume_info_len)
    else None

-- a volume that is new to these, and after it each volume nested in it that is
abbrev pub newcomers : Catalog → List ℕ → Option ℕ → List ℕ
newcomers catalog known None = []
newcomers catalog known (Some volume) = if has_number known volume then [] else filter (λ other. not (has_number known other)) (family catalog volume)

-- the volumes that PPIs report, one PPI after the other
abbrev pub reports : Catalog → StoreState → List ℕ → List ℕ → List ℕ
reports catalog s reported [] = []
reports catalog s reported (place ∷ places) =
    newcomers catalog reported (told_at catalog s place) ++ reports catalog s (reported ++ newcomers catalog reported (told_at catalog s place)) places
