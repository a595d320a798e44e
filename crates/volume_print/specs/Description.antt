-- What a text says of a volume that a reader accepts.
use Rattle.pi_base.specs.{declared.guid.Guid.Guid, Field.little_number, declared.guid.TheConstants.GUID_LEN}
use Rattle.std.specs.Prelude.{◌≡◌, ◌⊎◌, ℕ, zero, suc, ◌+◌, ◌-◌, ◌==◌, false, nat_lt, bit_and, bit_xor, bytes_eq, if◌then◌else◌, List, length, map, take, drop, slice_index, Option, Some, None}
use Rattle.fv_volume.specs.{declared.file.FfsFile.FfsFile, declared.file_header.TheConstants.ATTRIBUTES_AT as FILE_ATTRIBUTES_AT}
use Rattle.fv_volume.specs.{declared.file_type.TheConstants.RAW, declared.volume.Volume.Volume, Volume.IsVolume}
use Rattle.fv_volume.specs.declared.volume_header.TheConstants.{ATTRIBUTES_AT, ERASE_POLARITY, EXT_HEADER_OFFSET_AT, FFS3, FILE_SYSTEM_AT, HEADER_LENGTH_AT, LEAST_LEN}
use Rattle.fv_volume.specs.{declared.sections.section.Section.Section, declared.sections.fault.SecFault.SecFault}
use Rattle.fv_volume.specs.Stream.{AreInside, AreSections, IsFirstFault}
use Rattle.fv_volume.specs.declared.build.file_system.FileSystem.{FileSystem}
use Rattle.fv_volume.specs.declared.build.file_system.FileSystem.TheVariants.{Ffs2, Ffs3}
use Rattle.fv_volume.specs.{declared.build.volume_header.VolumeForm.VolumeForm, declared.build.volume_name.VolumeName.VolumeName}
use Rattle.fv_volume.specs.{declared.build.volume_name.TheConstants.EXT_HEADER_LEN, Front.first_place}
use Rattle.fv_volume.specs.{declared.build.new_file.NewFile.NewFile, declared.build.new_file.NewSection.NewSection}
use Rattle.fv_volume.specs.declared.build.new_file.Body.{Body}
use Rattle.fv_volume.specs.declared.build.new_file.Body.TheVariants.{Sections, Bytes}
use Rattle.fv_volume.specs.{Attributes.attributes_in, Sections.body_bytes, Header.plain, Reading.AreEach}
use Rattle.mod_catalog.specs.declared.limits.TheConstants.{MOST_DEPTH}
use Rattle.volume_text.specs.Text.{Leads}
use Rattle.volume_print.specs.{Places.pads_before, Places.rooms, Spelling.IsVolumeText}

-- the section with its bytes
abbrev pub section_in : List ℕ → Section → NewSection
section_in body section = record { kind = section.kind; body = take section.body_len (drop section.body_at body) }

-- the sections take all of a body where they are built: no header is longer than its section's size asks for, and nothing is left over
abbrev pub LieAsBuilt : FileSystem → List ℕ → List Section → Type 0
LieAsBuilt file_system bytes sections = length (body_bytes file_system (map (section_in bytes) sections)) ≡ length bytes

-- a body is told by no sections: that of a raw file, one whose sections cannot be read, and one whose sections would not take all of it
abbrev pub IsNoStream : FileSystem → ℕ → List ℕ → Type 0
IsNoStream file_system kind bytes =
    (kind ≡ RAW) ⊎ (((fault : SecFault) × IsFirstFault bytes fault) ⊎ ((read : List Section) × AreSections bytes read × (LieAsBuilt file_system bytes read → ⊥)))

-- the sections of a body, or none
abbrev pub IsStream : FileSystem → ℕ → List ℕ → Option (List Section) → Type 0
IsStream file_system kind bytes (Some read) = ((kind == RAW) ≡ false) × AreSections bytes read × AreInside bytes read × LieAsBuilt file_system bytes read
IsStream file_system kind bytes None = IsNoStream file_system kind bytes

-- the body of a file is its sections, or bytes
abbrev pub IsBodyIn : FileSystem → ℕ → List ℕ → Body → Type 0
IsBodyIn file_system kind bytes (Sections sections) =
    ((kind == RAW) ≡ false) × ((read : List Section) × AreSections bytes read × LieAsBuilt file_system bytes read × (sections ≡ map (section_in bytes) read))
IsBodyIn file_system kind bytes (Bytes body) = (body ≡ bytes) × IsNoStream file_system kind bytes

-- a file of a volume with its name, type, attributes and body
pub record IsFileIn (file_system : FileSystem) (bytes : List ℕ) (found : FfsFile) (file : NewFile) : Type 0 where
  pub name : file.name ≡ found.name
  pub kind : file.kind ≡ found.kind
  pub attributes : file.attributes ≡ attributes_in (slice_index bytes (found.at + FILE_ATTRIBUTES_AT))
  pub body : IsBodyIn file_system found.kind (take found.body_len (drop found.body_at bytes)) file.body

-- the file system that a header names, which is one of two
abbrev pub file_system_in : List ℕ → FileSystem
file_system_in bytes = if bytes_eq (take GUID_LEN (drop FILE_SYSTEM_AT bytes)) FFS3 then Ffs3 else Ffs2

-- the attributes of a volume that is erased to ones, beside its erase polarity; those of another have no text
abbrev pub told_attributes : ℕ → ℕ
told_attributes attributes = if bit_and attributes ERASE_POLARITY == 0 then 0 else bit_xor attributes ERASE_POLARITY

-- the form of a volume, as its header says
abbrev pub form_in : List ℕ → VolumeForm
form_in bytes =
    if nat_lt (length bytes) LEAST_LEN then plain Ffs2
    else record {
      file_system = file_system_in bytes;
      attributes = told_attributes (little_number 4 (drop ATTRIBUTES_AT bytes));
      header_len = little_number 2 (drop HEADER_LENGTH_AT bytes);
    }

-- a name whose extended header stands at this place of the bytes, with the size that it says
abbrev pub name_at : List ℕ → Guid → ℕ → Option VolumeName
name_at bytes guid at =
    if nat_lt (length bytes) (at + EXT_HEADER_LEN) then None
    else Some (record { guid = guid; at = at; size = little_number 4 (drop (at + GUID_LEN) bytes) })

-- the name of a volume, with the place that its header says
abbrev pub name_in : List ℕ → Option Guid → Option VolumeName
name_in bytes None = None
name_in bytes (Some guid) =
    if nat_lt (length bytes) LEAST_LEN then None else name_at bytes guid (little_number 2 (drop EXT_HEADER_OFFSET_AT bytes))

-- the pads in front of each file of a volume that is read of the bytes: they have the names and the bodies that stand there, and bring the file to its
-- place where it is built again
abbrev pub pads_of : List ℕ → Volume → List NewFile → List (List NewFile)
pads_of bytes volume files =
    let form = form_in bytes in pads_before bytes (first_place form (name_in bytes volume.name)) (rooms form.file_system volume.files files)

-- the text of a volume that is read of the bytes, with these files, by what volumes inside have as their texts
abbrev pub IsSpelled : (List ℕ → List ℕ → Type 0) → List ℕ → Volume → List NewFile → List ℕ → Type 0
IsSpelled Inner bytes volume files text =
    IsVolumeText Inner (form_in bytes) volume.len (name_in bytes volume.name) (pads_of bytes volume files) files text

-- the text of a volume that is read of the bytes, by what volumes inside have as their texts
pub record IsTextBy (Inner : List ℕ → List ℕ → Type 0) (bytes : List ℕ) (volume : Volume) (text : List ℕ) : Type 0 where
  pub files : List NewFile
  pub are : AreEach (IsFileIn (form_in bytes).file_system bytes) volume.files files
  pub spelled : IsSpelled Inner bytes volume files text

-- the bytes are a volume from the first to the last, and have a text of which one of as many bytes is made
pub record IsToldInside (Inner : List ℕ → List ℕ → Type 0) (bytes text : List ℕ) : Type 0 where
  pub volume : Volume
  pub is : IsVolume bytes volume
  pub all : volume.len ≡ length bytes
  pub told : IsTextBy Inner bytes volume text
  pub again : List ℕ
  pub leads : Leads text again
  pub long : length again ≡ length bytes

-- the text of bytes that stand inside as a volume, with volumes inside of it at most so deep as there are levels left
abbrev pub IsInner : ℕ → List ℕ → List ℕ → Type 0
IsInner zero bytes text = ⊥
IsInner (suc deep) bytes text = IsToldInside (IsInner deep) bytes text

-- the text of the volume that stands at the start of the bytes
pub record IsTextOf (bytes text : List ℕ) : Type 0 where
  pub volume : Volume
  pub is : IsVolume bytes volume
  pub told : IsTextBy (IsInner (MOST_DEPTH - 1)) bytes volume text
