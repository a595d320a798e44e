-- What the readers of volumes and sections read of a built volume.
use Rattle.std.specs.Prelude.{◌≡◌, ◌≢◌, ◌≤◌, ◌<◌, ◌^◌, ℕ, ◌+◌, ⊤, not, slice_index, ◌==◌, if◌then◌else◌, List, [], ◌∷◌, length, map, take, drop, filter, Option, Some, None, All}
use Rattle.pi_base.specs.declared.guid.Guid.{Guid}
use Rattle.fv_volume.specs.{declared.file.FfsFile.FfsFile, declared.file_type.TheConstants.PAD, declared.frame.TheConstants.ALIGNMENT}
use Rattle.fv_volume.specs.{declared.volume.Volume.Volume, Volume.IsVolume, declared.sections.section.Section.Section}
use Rattle.fv_volume.specs.declared.sections.section_type.TheConstants.{COMPRESSION, GUID_DEFINED}
use Rattle.fv_volume.specs.{declared.sections.stream.TheConstants.MOST_SECTIONS, Stream.AreSections}
use Rattle.fv_volume.specs.{declared.build.new_file.NewFile.NewFile, declared.build.new_file.NewSection.NewSection}
use Rattle.fv_volume.specs.declared.build.new_file.Body.{Body}
use Rattle.fv_volume.specs.declared.build.new_file.Body.TheVariants.{Sections, Bytes}
use Rattle.fv_volume.specs.{Attributes.attributes_in, declared.build.volume_header.VolumeForm.VolumeForm}
use Rattle.fv_volume.specs.{declared.build.volume_name.VolumeName.VolumeName, FileSystems.FileSystem, Front.first_place, Files.file_bytes}
use Rattle.fv_volume.specs.{Placing.gap, declared.file_header.TheConstants.ATTRIBUTES_AT}

-- as many things of one list as of the other, each pair of them related
abbrev pub AreEach : {A B : Type 0} → (A → B → Type 0) → List A → List B → Type 0
AreEach Is [] [] = ⊤
AreEach Is (x ∷ xs) (y ∷ ys) = Is x y × AreEach Is xs ys
AreEach Is [] (y ∷ ys) = ⊥
AreEach Is (x ∷ xs) [] = ⊥

-- a section that was read has the type and the body of the one that was handed in
abbrev pub IsSectionRead : List ℕ → NewSection → Section → Type 0
IsSectionRead bytes section read = (read.kind ≡ section.kind) × (take read.body_len (drop read.body_at bytes) ≡ section.body)

-- the reader of sections accepts so many, and opens none of these types
abbrev pub AreReadable : List NewSection → Type 0
AreReadable sections = (length sections ≤ MOST_SECTIONS) × All (λ section. (section.kind ≢ COMPRESSION) × (section.kind ≢ GUID_DEFINED)) sections

-- the sections that are read of these bytes are those that were handed in
abbrev pub AreSectionsRead : List ℕ → List NewSection → Type 0
AreSectionsRead body sections = (read : List Section) × AreSections body read × AreEach (IsSectionRead body) sections read

-- the bytes after a file's header are those that were handed in, or its sections are
abbrev pub IsBodyRead : List ℕ → Body → Type 0
IsBodyRead bytes (Sections sections) = AreReadable sections → AreSectionsRead bytes sections
IsBodyRead bytes (Bytes body) = bytes ≡ body

-- a file that was read has the name, the type, the attributes and the body of the one that was handed in
pub record IsFileRead (bytes : List ℕ) (file : NewFile) (read : FfsFile) : Type 0 where
  pub name : read.name ≡ file.name
  pub kind : read.kind ≡ file.kind
  pub attributes : attributes_in (slice_index bytes (read.at + ATTRIBUTES_AT)) ≡ file.attributes
  pub body : IsBodyRead (take read.body_len (drop read.body_at bytes)) file.body

-- the files that a reader lists: all but the pads
abbrev pub listed : List NewFile → List NewFile
listed files = filter (λ file. not (file.kind == PAD)) files

-- the places of the files that a reader lists, if files are laid from this place on, each at the next multiple of 8
abbrev pub listed_at : FileSystem → ℕ → List NewFile → List ℕ
listed_at file_system from [] = []
listed_at file_system from (file ∷ files) =
    let at = from + gap ALIGNMENT from in
    let behind = listed_at file_system (at + length (file_bytes file_system file)) files in
    if file.kind == PAD then behind else at ∷ behind

-- the bytes are a volume of all of them without a name, whose files are those that were handed in, without pads
pub record IsReadBack (files : List NewFile) (bytes : List ℕ) : Type 0 where
  pub volume : Volume
  pub is_volume : IsVolume bytes volume
  pub len : volume.len ≡ length bytes
  pub no_name : volume.name ≡ None
  pub are_files : AreEach (IsFileRead bytes) (listed files) volume.files

-- a name has sixteen bytes, and a place that fits its field
abbrev pub IsWhole : Option VolumeName → Type 0
IsWhole None = ⊤
IsWhole (Some name) = (length name.guid.0 ≡ 16) × (name.at < 2 ^ 16)

abbrev pub guid_of : Option VolumeName → Option Guid
guid_of None = None
guid_of (Some name) = Some name.guid

-- the bytes are a volume of all of them, of this length and with this name, or with none, whose files are those that were handed in, without the pads, each at
-- its place
pub record IsReadAs (form : VolumeForm) (name : Option VolumeName) (files : List NewFile) (len : ℕ) (bytes : List ℕ) : Type 0 where
  pub volume : Volume
  pub is_volume : IsVolume bytes volume
  pub len_is : volume.len ≡ len
  pub long : length bytes ≡ len
  pub name_is : volume.name ≡ guid_of name
  pub are_files : AreEach (IsFileRead bytes) (listed files) volume.files
  pub places : map (λ file. file.at) volume.files ≡ listed_at form.file_system (first_place form name) files
