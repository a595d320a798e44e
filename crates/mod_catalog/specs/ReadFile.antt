-- The files of a volume that are read: those that have a module, those that hold a volume, and the two a priori files.
-- Each has its sections, and its scripts (PI 1.8, volume 3, firmware file sections; the scripts are own).
use Rattle.std.specs.Prelude.{◌≡◌, ℕ, ◌+◌, Bool, false, ◌&&◌, ◌||◌, ◌==◌, List, take, drop, map, filter, find, Option, Some, None, option_map, nat_eq}
use Rattle.std.specs.List.{starts_with}
use Rattle.pi_base.specs.{Guids.same_guid, Lists.Each, Lists.EachPair, declared.guid.Guid.Guid, declared.phase.Phase.Phase}
use Rattle.pi_base.specs.declared.phase.Phase.TheVariants.{Pei, Dxe}
use Rattle.fv_volume.specs.declared.file.FfsFile.{FfsFile}
use Rattle.fv_volume.specs.declared.file_type.TheConstants.{FREEFORM, VOLUME_IMAGE as VOLUME_FILE}
use Rattle.fv_volume.specs.declared.sections.section.Section.{Section}
use Rattle.fv_volume.specs.declared.sections.section_type.TheConstants.{RAW, VOLUME_IMAGE as VOLUME_SECTION}
use Rattle.fv_volume.specs.Stream.{AreSections}
use Rattle.act_code.specs.{declared.header.TheConstants.MAGIC, Script.IsScript}
use Rattle.mod_catalog.specs.FileType.{has_module, a_priori_name}
pub use Rattle.mod_catalog.specs.declared.read_file.ReadFile.{ReadFile}
pub use Rattle.mod_catalog.specs.declared.read_file.Stretch.{Stretch}

-- whether it is a freeform file of a name
abbrev pub is_freeform : Guid → FfsFile → Bool
is_freeform name file = (file.kind == FREEFORM) && same_guid file.name name

-- the a priori file of a phase: the first freeform file of its name
abbrev pub a_priori_file : Phase → List FfsFile → Option FfsFile
a_priori_file phase files = find (is_freeform (a_priori_name phase)) files

-- whether it is this file
abbrev pub is_file : Option FfsFile → FfsFile → Bool
is_file None file = false
is_file (Some found) file = found.at == file.at

-- whether a file of the volume is read
abbrev pub is_read : List FfsFile → FfsFile → Bool
is_read files file =
    has_module file.kind || (file.kind == VOLUME_FILE) || is_file (a_priori_file Pei files) file || is_file (a_priori_file Dxe files) file

-- the body of a file in the bytes of its volume
abbrev pub file_body : List ℕ → FfsFile → List ℕ
file_body bytes file = take file.body_len (drop file.body_at bytes)

-- the body of a section of a file in the bytes of its volume
abbrev pub section_body : List ℕ → FfsFile → Section → List ℕ
section_body bytes file section = take section.body_len (drop section.body_at (file_body bytes file))

-- the body of the first section of a type
abbrev pub first_body : List ℕ → ℕ → FfsFile → List Section → Option (List ℕ)
first_body bytes kind file sections = option_map (section_body bytes file) (find (λ section. section.kind == kind) sections)

-- the sections of a file that must be scripts: the raw ones that begin with the magic, in a file that has a module
abbrev pub is_script : List ℕ → FfsFile → Section → Bool
is_script bytes file section = has_module file.kind && ((section.kind == RAW) && starts_with nat_eq (section_body bytes file section) MAGIC)

-- all of them, in order
abbrev pub script_sections : List ℕ → FfsFile → List Section → List Section
script_sections bytes file sections = filter (is_script bytes file) sections

-- a file has these sections and scripts
pub record IsReadFile (bytes : List ℕ) (read : ReadFile) : Type 0 where
  pub sections : AreSections (file_body bytes read.file) read.sections
  pub scripts : EachPair (λ section script. IsScript (section_body bytes read.file section) script) (script_sections bytes read.file read.sections) read.scripts

-- these files of a volume are read
pub record AreRead (bytes : List ℕ) (files : List FfsFile) (reads : List ReadFile) : Type 0 where
  pub these : map (λ read. read.file) reads ≡ filter (is_read files) files
  pub each : Each (IsReadFile bytes) reads

-- whether a section of a file holds a volume
abbrev pub holds_volume : FfsFile → Section → Bool
holds_volume file section = (file.kind == VOLUME_FILE) && (section.kind == VOLUME_SECTION)

-- the bodies of a file that hold a volume
abbrev pub nested_in : FfsFile → List Section → List Stretch
nested_in file sections = map (λ section. record { at = file.body_at + section.body_at; len = section.body_len }) (filter (holds_volume file) sections)
