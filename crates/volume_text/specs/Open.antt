-- What is open behind some lines of a text (own): a volume with its files so far, of which the last may get sections.
use Rattle.std.specs.Prelude.{◌≡◌, ℕ, ◌-◌, ◌^◌, Bool, false, ◌&&◌, ◌||◌, ◌==◌, not, nat_le, nat_lt, min, replicate, take, bytes_eq, if◌then◌else◌, List, [], ◌∷◌, ◌++◌, length, Option, Some, None, Result, Ok, Err, sum_by}
use Rattle.std.specs.{List.list_any, Borrow.Bor}
use Rattle.pi_base.specs.{declared.guid.Guid.Guid, declared.phase.Phase.Phase}
use Rattle.pi_base.specs.declared.phase.Phase.TheVariants.{Pei, Dxe}
use Rattle.fv_volume.specs.declared.file_type.TheConstants.{PEIM, DRIVER, COMBINED_PEIM_DRIVER, COMBINED_MM_DXE, PAD}
use Rattle.fv_volume.specs.declared.sections.section_type.TheConstants.{RAW, PEI_DEPEX, DXE_DEPEX}
use Rattle.fv_volume.specs.{declared.build.new_file.NewFile.NewFile, declared.build.new_file.NewSection.NewSection}
use Rattle.fv_volume.specs.declared.build.new_file.Body.{Body}
use Rattle.fv_volume.specs.declared.build.new_file.Body.TheVariants.{Sections, Bytes}
use Rattle.fv_volume.specs.{declared.build.attributes.FileAttributes.FileAttributes, Attributes.plain_attributes}
use Rattle.fv_volume.specs.{declared.build.fault.BuildFault.BuildFault, declared.build.volume_name.VolumeName.VolumeName, Front.is_placed}
use Rattle.fv_volume.specs.declared.build.fault.BuildFault.TheVariants as build_fault
use Rattle.fv_volume.specs.Building.{volume_bytes, volume_fault}
use Rattle.volume_text.specs.{declared.volume.TheConstants.ERASED, declared.fault.Cause.Cause, declared.fault.Stop.Stop}
use Rattle.volume_text.specs.declared.fault.Cause.TheVariants as cause
use Rattle.volume_text.specs.declared.fault.Stop.TheVariants as stop
use Rattle.volume_text.specs.{declared.volume.OpenVolume.OpenVolume, Reading.◌>>=◌, Reading.only_if, Words.is_length, Words.is_header}

abbrev pub with_first : {A : Type 0} → A → Option (List A × A) → Option (List A × A)
with_first first None = Some ([], first)
with_first first (Some parts) = Some (first ∷ parts.0, parts.1)

-- all things of a list but the last, and the last
abbrev pub last_of : {A : Type 0} → List A → Option (List A × A)
last_of [] = None
last_of (first ∷ others) = with_first first (last_of others)

-- the file with another body
abbrev pub with_body : NewFile → Body → NewFile
with_body file body = record { name = file.name; kind = file.kind; attributes = file.attributes; body = body }

abbrev pub held_in : NewSection → NewFile → Body → Result NewFile Cause
held_in section file (Sections sections) = Ok (with_body file (Sections (sections ++ section ∷ [])))
held_in section file (Bytes bytes) = Err cause.TwoBodies

-- the file with one more section, unless its body is bytes
abbrev pub holding : NewSection → NewFile → Result NewFile Cause
holding section file = held_in section file file.body

-- a body has nothing yet
abbrev pub is_empty : Body → Bool
is_empty (Sections sections) = length sections == 0
is_empty (Bytes bytes) = false

-- the file with these bytes as its body, unless it has sections or bytes
abbrev pub with_bytes : List ℕ → NewFile → Result NewFile Cause
with_bytes bytes file = only_if (is_empty file.body) cause.TwoBodies (with_body file (Bytes bytes))

-- the volume with another name and other files
abbrev pub with_parts : OpenVolume → Option VolumeName → List NewFile → OpenVolume
with_parts volume name files = record { form = volume.form; len = volume.len; name = name; files = files }

abbrev pub with_files : OpenVolume → List NewFile → OpenVolume
with_files volume files = with_parts volume volume.name files

-- the bytes in a body: its own, or those of its sections
abbrev pub bytes_held_in : Body → ℕ
bytes_held_in (Sections sections) = sum_by (λ section. length section.body) sections
bytes_held_in (Bytes bytes) = length bytes

-- the bytes in all bodies of files, without the files' headers and without what stands between them
abbrev pub bytes_held : List NewFile → ℕ
bytes_held files = sum_by (λ file. bytes_held_in file.body) files

-- so many bytes, where a volume of this length has room for them
abbrev pub room_for : ℕ → ℕ → Result ℕ Cause
room_for held len = only_if (nat_le held len) (cause.NoRoom (min held (2 ^ 64 - 1))) held

-- the volume, where the bodies of its files hold no more bytes than it has
abbrev pub fitting : OpenVolume → Result OpenVolume Cause
fitting volume = room_for (bytes_held volume.files) volume.len >>= (λ _. Ok volume)

-- the volume with its last file changed
abbrev pub with_last : OpenVolume → (NewFile → Result NewFile Cause) → Option (List NewFile × NewFile) → Result OpenVolume Cause
with_last volume changed None = Err cause.NoFile
with_last volume changed (Some parts) = changed parts.1 >>= (λ last. Ok (with_files volume (parts.0 ++ last ∷ [])))

abbrev pub section_added : OpenVolume → NewSection → Result OpenVolume Cause
section_added volume section = with_last volume (holding section) (last_of volume.files)

-- the volume with one more section in its last file
abbrev pub with_section : OpenVolume → NewSection → Result OpenVolume Cause
with_section volume section = section_added volume section >>= fitting

abbrev pub last_body_set : OpenVolume → List ℕ → Result OpenVolume Cause
last_body_set volume bytes = with_last volume (with_bytes bytes) (last_of volume.files)

-- the volume with these bytes as its last file's body
abbrev pub with_last_body : OpenVolume → List ℕ → Result OpenVolume Cause
with_last_body volume bytes = last_body_set volume bytes >>= fitting

abbrev pub new_file : ℕ → Guid → FileAttributes → NewFile
new_file kind name attributes = record { name = name; kind = kind; attributes = attributes; body = Sections [] }

-- the volume with one more file
abbrev pub with_new_file : OpenVolume → NewFile → OpenVolume
with_new_file volume file = with_files volume (volume.files ++ file ∷ [])

-- the volume with one more file, which has no section yet
abbrev pub with_file : OpenVolume → ℕ → Guid → FileAttributes → OpenVolume
with_file volume kind name attributes = with_new_file volume (new_file kind name attributes)

-- a pad file with a body of so many bytes, which looks erased but for its header's fields
abbrev pub pad_file : ℕ → NewFile
pad_file len = record { name = record { 0 = replicate 16 ERASED }; kind = PAD; attributes = plain_attributes; body = Bytes (replicate len ERASED) }

abbrev pub with_pad : OpenVolume → ℕ → Result OpenVolume Cause
with_pad volume len = fitting (with_new_file volume (pad_file len))

abbrev pub named_over : OpenVolume → VolumeName → Option VolumeName → Result OpenVolume Cause
named_over volume name None = only_if (is_placed volume.form.header_len (Some name)) cause.Range (with_parts volume (Some name) volume.files)
named_over volume name (Some other) = Err cause.TwoNames

-- the volume with this name, if it has none yet and its header ends in front of it
abbrev pub with_name : OpenVolume → VolumeName → Result OpenVolume Cause
with_name volume name = named_over volume name volume.name

-- the type of the section with the expression for a phase
abbrev pub depex_type : Phase → ℕ
depex_type Pei = PEI_DEPEX
depex_type Dxe = DXE_DEPEX

-- a PEIM has a part for PEI, a driver and an MM module of DXE one for DXE, and a PEIM and driver in one file both (PI 1.8, volume 3, file types)
abbrev pub has_part : ℕ → Phase → Bool
has_part kind Pei = (kind == PEIM) || (kind == COMBINED_PEIM_DRIVER)
has_part kind Dxe = (kind == DRIVER) || ((kind == COMBINED_PEIM_DRIVER) || (kind == COMBINED_MM_DXE))

-- the section has the expression for a phase
abbrev pub is_depex_of : Phase → NewSection → Bool
is_depex_of phase section = section.kind == depex_type phase

abbrev pub is_depex_in : Phase → Body → Bool
is_depex_in phase (Sections sections) = list_any (is_depex_of phase) sections
is_depex_in phase (Bytes bytes) = false

abbrev pub has_depex : Phase → NewFile → Bool
has_depex phase file = is_depex_in phase file.body

abbrev pub phase_byte : Phase → ℕ
phase_byte Pei = 1
phase_byte Dxe = 2

-- what a script of a phase begins with: the magic, the version and the phase
abbrev pub script_front : Phase → List ℕ
script_front phase = 80 ∷ (73 ∷ (65 ∷ (83 ∷ (1 ∷ (phase_byte phase ∷ [])))))

-- the section is a script of a phase
abbrev pub is_script_of : Phase → NewSection → Bool
is_script_of phase section = (section.kind == RAW) && bytes_eq (take 6 section.body) (script_front phase)

abbrev pub is_script_in : Phase → Body → Bool
is_script_in phase (Sections sections) = list_any (is_script_of phase) sections
is_script_in phase (Bytes bytes) = false

abbrev pub has_script : Phase → NewFile → Bool
has_script phase file = is_script_in phase file.body

-- the last of the files, where there is one
abbrev pub IsLastFile : Option (Bor NewFile) → List NewFile → Type 0
IsLastFile None files = last_of files ≡ None
IsLastFile (Some last) files = (front : List NewFile) × (last_of files ≡ Some (front, last.now))

abbrev pub only_with_part : Phase → NewFile → Result (Unit {0}) Cause
only_with_part phase file = only_if (has_part file.kind phase) cause.NoPart tt

abbrev pub only_without_script : Phase → NewFile → Result (Unit {0}) Cause
only_without_script phase file = only_if (not (has_script phase file)) cause.TwoScripts tt

abbrev pub only_part : Phase → Option (List NewFile × NewFile) → Result (Unit {0}) Cause
only_part phase None = Err cause.NoFile
only_part phase (Some parts) = only_with_part phase parts.1

-- the last file has a part for a phase
abbrev pub part_checked : Phase → OpenVolume → Result (Unit {0}) Cause
part_checked phase volume = only_part phase (last_of volume.files)

abbrev pub only_first : Phase → Option (List NewFile × NewFile) → Result (Unit {0}) Cause
only_first phase None = Err cause.NoFile
only_first phase (Some parts) = only_without_script phase parts.1

-- the last file may get a script of a phase
abbrev pub script_checked : Phase → OpenVolume → Result (Unit {0}) Cause
script_checked phase volume = part_checked phase volume >>= (λ _. only_first phase (last_of volume.files))

abbrev pub only_without_depex : Phase → NewFile → Result (Unit {0}) Cause
only_without_depex phase file = only_if (not (has_depex phase file)) cause.TwoDepex tt

abbrev pub only_first_depex : Phase → Option (List NewFile × NewFile) → Result (Unit {0}) Cause
only_first_depex phase None = Err cause.NoFile
only_first_depex phase (Some parts) = only_without_depex phase parts.1

-- the last file may get an expression for a phase
abbrev pub depex_checked : Phase → OpenVolume → Result (Unit {0}) Cause
depex_checked phase volume = part_checked phase volume >>= (λ _. only_first_depex phase (last_of volume.files))

-- what stands against a volume, as what is wrong with its `end`
abbrev pub stop_of : BuildFault → Stop
stop_of build_fault.TooMany = stop.Fault cause.TooMany
stop_of build_fault.Size = stop.Fault cause.Size
stop_of (build_fault.NoRoom need have) = stop.Fault (cause.NoRoom need)
stop_of build_fault.Memory = stop.Memory

abbrev pub refused_by : OpenVolume → Option BuildFault → Result (List ℕ) Cause
refused_by volume None = Ok (volume_bytes volume.form volume.name volume.files volume.len)
refused_by volume (Some build_fault.TooMany) = Err cause.TooMany
refused_by volume (Some build_fault.Size) = Err cause.Size
refused_by volume (Some (build_fault.NoRoom need have)) = Err (cause.NoRoom need)
refused_by volume (Some build_fault.Memory) = Ok (volume_bytes volume.form volume.name volume.files volume.len)

-- its length, its attributes, its header's length and its name's place are in their ranges
abbrev pub is_in_range : OpenVolume → Bool
is_in_range volume =
    is_length volume.len
    && (nat_lt volume.form.attributes (2 ^ 32) && (is_header volume.len volume.form.header_len && is_placed volume.form.header_len volume.name))

-- the bytes of a volume at its `end`
abbrev pub built_of : OpenVolume → Result (List ℕ) Cause
built_of volume = if is_in_range volume then refused_by volume (volume_fault volume.form volume.name volume.files volume.len) else Err cause.Range
