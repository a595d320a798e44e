-- The name of a module: that of the file whose header stands at the module's place.
-- PI 1.8, volume 3, `EFI_SECTION_USER_INTERFACE`.
use Rattle.std.specs.Prelude.{◌≡◌, ◌⊎◌, ℕ, ◌==◌, List, [], find, take, drop, Option, Some, None, option_map, slice_get, option_and_then}
use Rattle.fv_volume.specs.{declared.sections.fault.SecFault.SecFault, declared.sections.section.Section.Section}
use Rattle.fv_volume.specs.{declared.sections.section_type.TheConstants.USER_INTERFACE, Stream.AreSections, Stream.IsFirstFault}
use Rattle.pi_base.specs.Field.{words_of}
use Rattle.mod_catalog.specs.{declared.catalogue.Module.Module, declared.catalogue.VolumeEntry.VolumeEntry}
use Rattle.boot_model.specs.PlanBoard.{roms_of}
use Rattle.explain_text.specs.{File.file_body, Mapped.mapped_from, Name.before_null}

-- the body of the first section of a type
abbrev pub first_body : ℕ → List ℕ → List Section → Option (List ℕ)
first_body kind body sections =
    option_map (λ section. take section.body_len (drop section.body_at body)) (find (λ section. section.kind == kind) sections)

-- the name in the first user interface section of a file with these sections
abbrev pub title_among : List ℕ → List Section → Option (List ℕ)
title_among body sections = option_and_then (λ text. before_null (words_of text)) (first_body USER_INTERFACE body sections)

-- the name of a file with this body; none where the body is no sections
abbrev pub IsTitleIn : List ℕ → Option (List ℕ) → Type 0
IsTitleIn body title =
    ((sections : List Section) × AreSections body sections × (title ≡ title_among body sections))
    ⊎ ((fault : SecFault) × IsFirstFault body fault × (title ≡ None))

-- the name of a file that may be there
abbrev pub IsTitleOf : Option (List ℕ) → Option (List ℕ) → Type 0
IsTitleOf None title = title ≡ None
IsTitleOf (Some body) title = IsTitleIn body title

-- the bytes of the volume of an entry, and what follows it in the plan's volume
abbrev pub volume_bytes : List VolumeEntry → List (List ℕ) → Option VolumeEntry → List ℕ
volume_bytes volumes images None = []
volume_bytes volumes images (Some entry) = mapped_from entry.base (roms_of volumes images)

-- the bytes from the header of a module's file on
abbrev pub file_of : List VolumeEntry → List (List ℕ) → Module → List ℕ
file_of volumes images m = drop m.at (volume_bytes volumes images (slice_get volumes m.volume))

-- the name of a module
abbrev pub IsTitle : List VolumeEntry → List (List ℕ) → Module → Option (List ℕ) → Type 0
IsTitle volumes images m title = IsTitleOf (file_body (file_of volumes images m)) title
