-- What is found of the bytes of a section.
use Rattle.std.specs.Prelude.{◌≡◌, ℕ, ◌-◌, ◌^◌, ◌≤◌, false, true, ◌==◌, if◌then◌else◌, List, [], ◌++◌, length, min, flat_map, Option, Some, None}
use Rattle.pi_base.specs.{declared.phase.Phase.Phase, declared.phase.Phase.TheVariants.Pei, declared.phase.Phase.TheVariants.Dxe}
use Rattle.fv_volume.specs.declared.sections.section_type.TheConstants.{PEI_DEPEX, DXE_DEPEX}
use Rattle.fv_volume.specs.{declared.build.new_file.NewSection.NewSection, declared.sections.section.Section.Section}
use Rattle.depex_code.specs.declared.depex.Depex.{Depex}
use Rattle.act_code.specs.{declared.script.Script.Script, Script.IsScript}
use Rattle.fv_volume.specs.{declared.sections.fault.SecFault.SecFault, declared.file.FfsFile.FfsFile, declared.volume.Volume.Volume}
use Rattle.fv_volume.specs.Stream.{AreInside, AreSections, IsFirstFault}
use Rattle.volume_print.specs.{declared.form.Form.Form, declared.form.Host.Host, Description.IsBodyIn, Description.IsFileIn}
use Rattle.volume_print.specs.declared.form.Form.TheVariants as form
use Rattle.fv_volume.specs.{Volume.IsVolume, declared.build.new_file.NewFile.NewFile, declared.build.new_file.Body.Body}
use Rattle.volume_text.specs.Text.{Leads}
use Rattle.fv_volume.specs.{declared.build.file_system.FileSystem.FileSystem, Files.bytes_in, Reading.AreEach}
use Rattle.volume_print.specs.Spelling.{IsExpressionOf, SaysExpression, is_guid_list, SaysScript, SaysName, SaysVolume, IsSectionText, AreSectionTexts, IsBodyText, IsFileText, expression_line, guids_line, script_lines, ui_line, section_line, whole, pad_text, with_pads}
use Rattle.volume_print.specs.Places.{room_of, rooms, between, pads_in, behind, behind_all, pads_before}

-- the expression that bytes are, or none
abbrev pub FindsExpression : Phase → List ℕ → Option Depex → Type 0
FindsExpression phase bytes (Some expression) = IsExpressionOf phase bytes expression
FindsExpression phase bytes None = (expression : Depex) → IsExpressionOf phase bytes expression → ⊥

-- the script that bytes are, or none
abbrev pub FindsScript : List ℕ → Option Script → Type 0
FindsScript bytes (Some script) = IsScript bytes script
FindsScript bytes None = (script : Script) → IsScript bytes script → ⊥

-- the phase whose expressions have sections of a type
abbrev pub depex_phase : ℕ → Option Phase
depex_phase kind = if kind == PEI_DEPEX then Some Pei else if kind == DXE_DEPEX then Some Dxe else None

-- the expression that a section behind others is told as, or none
abbrev pub TellsExpression : ℕ → List NewSection → NewSection → Option (Phase × Depex) → Type 0
TellsExpression kind before section (Some told) = SaysExpression kind before section told.0 told.1
TellsExpression kind before section None = (phase : Phase) (expression : Depex) → SaysExpression kind before section phase expression → ⊥

-- the script that a section behind others is told as, or none
abbrev pub TellsScript : Host → List NewSection → NewSection → Option Script → Type 0
TellsScript host before section (Some script) = SaysScript host before section script
TellsScript host before section None = (script : Script) → SaysScript host before section script → ⊥

-- the name that a section is told as, or none
abbrev pub TellsName : NewSection → Option (List ℕ) → Type 0
TellsName section (Some name) = SaysName section name
TellsName section None = (name : List ℕ) → SaysName section name → ⊥

-- the text of the volume that a section is told as, or none
abbrev pub TellsVolume : (List ℕ → List ℕ → Type 0) → Host → NewSection → Option (List ℕ) → Type 0
TellsVolume Inner host section (Some text) = SaysVolume Inner host section text
TellsVolume Inner host section None = (text : List ℕ) → SaysVolume Inner host section text → ⊥

-- the volume that bytes are from the first to the last, or none
abbrev pub FindsVolume : List ℕ → Option Volume → Type 0
FindsVolume bytes (Some volume) = IsVolume bytes volume × (volume.len ≡ length bytes)
FindsVolume bytes None = (volume : Volume) → IsVolume bytes volume → volume.len ≡ length bytes → ⊥

-- the sections that bytes are, or none where they cannot be read
abbrev pub ReadsSections : List ℕ → Option (List Section) → Type 0
ReadsSections bytes (Some read) = AreSections bytes read × AreInside bytes read
ReadsSections bytes None = (fault : SecFault) × IsFirstFault bytes fault

-- the text, where a volume of so many bytes is made of it
abbrev pub FindsText : ℕ → List ℕ → Option (List ℕ) → Type 0
FindsText len text (Some same) = (same ≡ text) × ((bytes : List ℕ) × Leads text bytes × (length bytes ≡ len))
FindsText len text None = (bytes : List ℕ) → Leads text bytes → length bytes ≡ len → ⊥

-- the form in which a section behind others of a file is told, if it is told as no volume
abbrev pub IsPlainForm : Host → List NewSection → NewSection → Form → Type 0
IsPlainForm host before section (form.Expression phase expression) = SaysExpression host.kind before section phase expression
IsPlainForm host before section (form.Volume text) = ⊥
IsPlainForm host before section form.Guids = is_guid_list host section ≡ true
IsPlainForm host before section (form.Script script) = SaysScript host before section script
IsPlainForm host before section (form.Name name) = SaysName section name
IsPlainForm host before section form.Bytes =
    TellsExpression host.kind before section None × (is_guid_list host section ≡ false) × TellsScript host before section None × TellsName section None

-- the form in which it is told
abbrev pub IsForm : (List ℕ → List ℕ → Type 0) → Host → List NewSection → NewSection → Form → Type 0
IsForm Inner host before section (form.Volume text) = SaysVolume Inner host section text
IsForm Inner host before section told = TellsVolume Inner host section None × IsPlainForm host before section told

-- the text of a section in a form
abbrev pub form_text : NewSection → Form → List ℕ
form_text section (form.Expression phase expression) = expression_line phase expression
form_text section (form.Volume text) = text
form_text section form.Guids = guids_line section.body
form_text section (form.Script script) = script_lines script
form_text section (form.Name name) = ui_line name
form_text section form.Bytes = section_line section

-- the text of a section behind others is added
abbrev pub AddsSection : (List ℕ → List ℕ → Type 0) → Host → List NewSection → NewSection → List ℕ → List ℕ → Type 0
AddsSection Inner host before section old new = (text : List ℕ) × IsSectionText Inner host before section text × (new ≡ old ++ text)

-- the texts of sections are added
abbrev pub AddsSections : (List ℕ → List ℕ → Type 0) → Host → List NewSection → List ℕ → List ℕ → Type 0
AddsSections Inner host sections old new = (texts : List (List ℕ)) × AreSectionTexts Inner host [] sections texts × (new ≡ old ++ whole texts)

-- a number that stands as 2^64 - 1 where it is greater
abbrev pub held : ℕ → ℕ
held n = min n (2 ^ 64 - 1)

-- the text of a body is added, which takes so many bytes where it is built
pub record AddsBody (Inner : List ℕ → List ℕ → Type 0) (file_system : FileSystem) (host : Host) (bytes old new : List ℕ) (len : ℕ) : Type 0 where
  pub body : Body
  pub is : IsBodyIn file_system host.kind bytes body
  pub text : List ℕ
  pub told : IsBodyText Inner host body text
  pub grown : new ≡ old ++ text
  pub long : len ≡ held (length (bytes_in file_system body))

-- the text of a file that may stand from a place on is added, behind its pads, and this is the least place behind it
pub record AddsFile (Inner : List ℕ → List ℕ → Type 0) (file_system : FileSystem) (bytes : List ℕ) (found : FfsFile) (from next : ℕ) (old new : List ℕ) : Type 0 where
  pub file : NewFile
  pub is : IsFileIn file_system bytes found file
  pub text : List ℕ
  pub told : IsFileText Inner file text
  pub grown : new ≡ old ++ (flat_map pad_text (pads_in (between bytes from found.at)) ++ text)
  pub fits : found.at ≤ 2 ^ 64 - 1
  pub next_is : next ≡ held (behind from (room_of file_system found file))

-- so are the texts of files
pub record AddsFiles (Inner : List ℕ → List ℕ → Type 0) (file_system : FileSystem) (bytes : List ℕ) (found : List FfsFile) (from next : ℕ) (old new : List ℕ) : Type 0 where
  pub files : List NewFile
  pub texts : List (List ℕ)
  pub are : AreEach (IsFileIn file_system bytes) found files
  pub told : AreEach (IsFileText Inner) files texts
  pub grown : new ≡ old ++ with_pads (pads_before bytes from (rooms file_system found files)) texts
  pub next_is : next ≡ held (behind_all from (rooms file_system found files))
