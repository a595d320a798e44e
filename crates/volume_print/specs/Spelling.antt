-- The text of a volume by its files (own): a line for each thing that the language of `volume_text` has, its words with single spaces between.
-- `Inner` says which bytes stand inside as a volume, and with which text.
use Rattle.std.specs.Prelude.{◌≡◌, ℕ, ◌%◌, ⊤, Bool, true, false, ◌&&◌, ◌||◌, ◌==◌, if◌then◌else◌, List, [], ◌∷◌, ◌++◌, length, codes, decimal, flat_map, Option, Some, None}
use Rattle.std.specs.List.{list_all, list_any}
use Rattle.hex.specs.Hex.{encode_lower}
use Rattle.pi_base.specs.{declared.guid.Guid.Guid, declared.phase.Phase.Phase}
use Rattle.pi_base.specs.{declared.phase.Phase.TheVariants.Pei, declared.phase.Phase.TheVariants.Dxe, declared.guid.TheConstants.GUID_LEN}
use Rattle.pi_base.specs.{Guids.same_guid, WordText.guid_text, WordText.hexadecimal}
use Rattle.fv_volume.specs.declared.file_type.TheConstants.{RAW, FREEFORM, SECURITY_CORE, PEI_CORE, DXE_CORE, PEIM, DRIVER, COMBINED_PEIM_DRIVER, APPLICATION, VOLUME_IMAGE, COMBINED_MM_DXE, PAD}
use Rattle.fv_volume.specs.declared.sections.section_type.TheConstants.{RAW as RAW_SECTION, USER_INTERFACE, VOLUME_IMAGE as VOLUME_SECTION}
use Rattle.fv_volume.specs.declared.build.file_system.FileSystem.{FileSystem}
use Rattle.fv_volume.specs.declared.build.file_system.FileSystem.TheVariants.{Ffs2, Ffs3}
use Rattle.fv_volume.specs.{declared.build.volume_header.VolumeForm.VolumeForm, declared.build.volume_header.TheConstants.HEADER_LEN}
use Rattle.fv_volume.specs.declared.build.volume_name.VolumeName.{VolumeName}
use Rattle.fv_volume.specs.declared.build.volume_name.TheConstants.{EXT_AT, EXT_HEADER_LEN}
use Rattle.fv_volume.specs.{declared.build.attributes.Alignment.Alignment, declared.build.attributes.FileAttributes.FileAttributes}
use Rattle.fv_volume.specs.{Attributes.alignment_len, Attributes.plain_attributes, Files.bytes_in, declared.build.new_file.NewFile.NewFile}
use Rattle.fv_volume.specs.{declared.build.new_file.NewSection.NewSection, declared.build.new_file.Body.Body}
use Rattle.fv_volume.specs.declared.build.new_file.Body.TheVariants.{Sections, Bytes}
use Rattle.fv_volume.specs.Reading.{AreEach}
use Rattle.depex_code.specs.declared.depex.Depex.{Depex}
use Rattle.depex_code.specs.Expression.{Reads, instructions, bytes_of}
use Rattle.act_code.specs.{declared.script.Script.Script, Script.IsScript}
use Rattle.mod_catalog.specs.{FileType.a_priori_name, APrioriNames.guids_in}
use Rattle.asm_text.specs.{ExpressionText.expression_text, ScriptText.line, ScriptText.block_lines}
use Rattle.volume_text.specs.Open.{depex_type, has_part, is_depex_of, is_script_of}
use Rattle.volume_text.specs.UserInterface.{IsNamed}
use Rattle.volume_print.specs.{declared.form.Host.Host, declared.pad.TheConstants.ERASED}

unfoldable pub phase_word : Phase → List ℕ
phase_word Pei = codes "pei"
phase_word Dxe = codes "dxe"

unfoldable pub system_word : FileSystem → List ℕ
system_word Ffs2 = codes "ffs2"
system_word Ffs3 = codes "ffs3"

-- the type of a core or of an application: its name; of another, two hexadecimal digits
unfoldable pub core_type_word : ℕ → List ℕ
core_type_word kind =
    if kind == SECURITY_CORE then codes "security-core"
    else if kind == PEI_CORE then codes "pei-core"
    else if kind == DXE_CORE then codes "dxe-core"
    else if kind == APPLICATION then codes "application"
    else encode_lower (kind ∷ [])

-- the type of a file: its name, or two hexadecimal digits
unfoldable pub type_word : ℕ → List ℕ
type_word kind =
    if kind == RAW then codes "raw"
    else if kind == FREEFORM then codes "freeform"
    else if kind == PEIM then codes "peim"
    else if kind == DRIVER then codes "driver"
    else if kind == COMBINED_PEIM_DRIVER then codes "combined"
    else if kind == VOLUME_IMAGE then codes "volume-image"
    else if kind == COMBINED_MM_DXE then codes "mm-dxe"
    else core_type_word kind

-- the bytes are an expression of the phase, and nothing behind it
abbrev pub IsExpressionOf : Phase → List ℕ → Depex → Type 0
IsExpressionOf phase bytes expression = Reads phase bytes expression × (bytes ≡ bytes_of (instructions expression))

-- a section of a file of a type is an expression of a phase, the first for its phase behind others
pub record SaysExpression (kind : ℕ) (before : List NewSection) (section : NewSection) (phase : Phase) (expression : Depex) : Type 0 where
  pub kind_is : section.kind ≡ depex_type phase
  pub part : has_part kind phase ≡ true
  pub first : list_any (is_depex_of phase) before ≡ false
  pub bytes : IsExpressionOf phase section.body expression

-- a file with the names of the modules that start first (PI 1.8, volumes 1 and 2, the a priori files)
abbrev pub is_a_priori : Host → Bool
is_a_priori host = (host.kind == FREEFORM) && (same_guid host.name (a_priori_name Pei) || same_guid host.name (a_priori_name Dxe))

-- a section of such a file is a list of GUIDs: a raw one, of whole GUIDs
abbrev pub is_guid_list : Host → NewSection → Bool
is_guid_list host section = is_a_priori host && ((section.kind == RAW_SECTION) && (length section.body % GUID_LEN == 0))

-- a section of a file is a script of a phase, the first of its phase behind others, and no list of GUIDs
pub record SaysScript (host : Host) (before : List NewSection) (section : NewSection) (script : Script) : Type 0 where
  pub kind_is : section.kind ≡ RAW_SECTION
  pub no_list : is_guid_list host section ≡ false
  pub part : has_part host.kind script.phase ≡ true
  pub first : list_any (is_script_of script.phase) before ≡ false
  pub bytes : IsScript section.body script

-- a section is a name that a word can say, in a user interface section
abbrev pub SaysName : NewSection → List ℕ → Type 0
SaysName section name = (section.kind ≡ USER_INTERFACE) × IsNamed section.body name

-- sections of this type may hold a volume, in a file for volumes
abbrev pub holds_volume : Host → ℕ → Bool
holds_volume host kind = (host.kind == VOLUME_IMAGE) && (kind == VOLUME_SECTION)

-- a section of a file is a volume with this text, by what volumes inside have as their texts
abbrev pub SaysVolume : (List ℕ → List ℕ → Type 0) → Host → NewSection → List ℕ → Type 0
SaysVolume Inner host section text = (holds_volume host section.kind ≡ true) × Inner section.body text

abbrev pub expression_line : Phase → Depex → List ℕ
expression_line phase expression = line (codes "depex " ++ (phase_word phase ++ (32 ∷ expression_text expression)))

abbrev pub script_lines : Script → List ℕ
script_lines script = line (codes "script " ++ phase_word script.phase) ++ (flat_map block_lines script.blocks ++ line (codes "end"))

-- a GUID behind a space
abbrev pub guid_word : Guid → List ℕ
guid_word guid = 32 ∷ guid_text guid

abbrev pub guids_line : List ℕ → List ℕ
guids_line bytes = line (codes "guids" ++ flat_map guid_word (guids_in bytes))

abbrev pub ui_line : List ℕ → List ℕ
ui_line name = line (codes "ui " ++ name)

abbrev pub section_line : NewSection → List ℕ
section_line section = line (codes "section " ++ (encode_lower (section.kind ∷ []) ++ (32 ∷ encode_lower section.body)))

-- the text of a section behind others of a file: a volume, an expression, a list of GUIDs, a script or a name where it is one, and its bytes where it is none
-- of them
pub data IsSectionText (Inner : List ℕ → List ℕ → Type 0) (host : Host) (before : List NewSection) (section : NewSection) (text : List ℕ) : Type 0 where
  as_volume : SaysVolume Inner host section text → IsSectionText Inner host before section text
  as_expression : (phase : Phase) (expression : Depex) → SaysExpression host.kind before section phase expression → text ≡ expression_line phase expression
      → IsSectionText Inner host before section text
  as_guids : is_guid_list host section ≡ true → text ≡ guids_line section.body → IsSectionText Inner host before section text
  as_script : (script : Script) → SaysScript host before section script → text ≡ script_lines script → IsSectionText Inner host before section text
  as_name : (name : List ℕ) → SaysName section name → text ≡ ui_line name → IsSectionText Inner host before section text
  as_bytes : ((inner : List ℕ) → SaysVolume Inner host section inner → ⊥)
      → ((phase : Phase) (expression : Depex) → SaysExpression host.kind before section phase expression → ⊥)
      → is_guid_list host section ≡ false
      → ((script : Script) → SaysScript host before section script → ⊥) → ((name : List ℕ) → SaysName section name → ⊥) → text ≡ section_line section → IsSectionText Inner host before section text

-- the texts of sections behind others
abbrev pub AreSectionTexts : (List ℕ → List ℕ → Type 0) → Host → List NewSection → List NewSection → List (List ℕ) → Type 0
AreSectionTexts Inner host before [] [] = ⊤
AreSectionTexts Inner host before (section ∷ sections) (text ∷ texts) =
    IsSectionText Inner host before section text × AreSectionTexts Inner host (before ++ section ∷ []) sections texts
AreSectionTexts Inner host before [] (text ∷ texts) = ⊥
AreSectionTexts Inner host before (section ∷ sections) [] = ⊥

-- texts one behind the other
abbrev pub whole : List (List ℕ) → List ℕ
whole texts = flat_map (λ text. text) texts

-- the line of a body that is no sections
abbrev pub body_line : List ℕ → List ℕ
body_line bytes = line (codes "body " ++ encode_lower bytes)

-- the text of a file's body
abbrev pub IsBodyText : (List ℕ → List ℕ → Type 0) → Host → Body → List ℕ → Type 0
IsBodyText Inner host (Sections sections) text = (texts : List (List ℕ)) × AreSectionTexts Inner host [] sections texts × (text ≡ whole texts)
IsBodyText Inner host (Bytes bytes) text = text ≡ body_line bytes

-- the words of a file's attributes, each behind a space
abbrev pub fixed_words : Bool → List ℕ
fixed_words fixed = if fixed then codes " fixed" else []

abbrev pub alignment_words : Alignment → List ℕ
alignment_words alignment = if alignment_len alignment == 1 then [] else codes " align " ++ decimal (alignment_len alignment)

-- a file's own line
abbrev pub head_line : ℕ → Guid → FileAttributes → List ℕ
head_line kind name attributes =
    line (codes "file " ++ (type_word kind ++ (32 ∷ (guid_text name ++ (fixed_words attributes.fixed ++ alignment_words attributes.alignment)))))

-- all of the bytes look erased
abbrev pub are_erased : List ℕ → Bool
are_erased bytes = list_all (λ byte. byte == ERASED) bytes

-- the line of a pad with so many bytes of body that looks erased
abbrev pub pad_line : ℕ → List ℕ
pad_line len = line (codes "pad " ++ decimal len)

-- the text of a pad with this name and this body: its body's length where both look erased, and else both, as those of any file
abbrev pub pad_text_of : Guid → List ℕ → List ℕ
pad_text_of name bytes =
    if are_erased name.0 && are_erased bytes then pad_line (length bytes) else head_line PAD name plain_attributes ++ body_line bytes

-- the text of a pad, whose body is bytes in either file system
abbrev pub pad_text : NewFile → List ℕ
pad_text pad = pad_text_of pad.name (bytes_in Ffs2 pad.body)

-- the texts of files, each behind those of the pads in front of it
abbrev pub with_pads : List (List NewFile) → List (List ℕ) → List ℕ
with_pads [] texts = []
with_pads (pads ∷ others) [] = []
with_pads (pads ∷ others) (text ∷ texts) = flat_map pad_text pads ++ (text ++ with_pads others texts)

abbrev pub host_of : NewFile → Host
host_of file = record { kind = file.kind; name = file.name }

-- the text of a file
abbrev pub IsFileText : (List ℕ → List ℕ → Type 0) → NewFile → List ℕ → Type 0
IsFileText Inner file text = (body : List ℕ) × IsBodyText Inner (host_of file) file.body body × (text ≡ head_line file.kind file.name file.attributes ++ body)

abbrev pub attribute_words : ℕ → List ℕ
attribute_words attributes = if attributes == 0 then [] else codes " attributes " ++ hexadecimal attributes

-- a number behind a word, each behind a space; nothing where the number is the usual one
abbrev pub number_words : List ℕ → ℕ → ℕ → List ℕ
number_words key usual n = if n == usual then [] else key ++ decimal n

-- a volume's own line
abbrev pub volume_line : VolumeForm → ℕ → List ℕ
volume_line form len =
    line (codes "volume " ++ (decimal len ++ (32 ∷ (system_word form.file_system
    ++ (number_words (codes " header ") HEADER_LEN form.header_len ++ attribute_words form.attributes)))))

-- the line of a name, if there is one
abbrev pub name_line : Option VolumeName → List ℕ
name_line None = []
name_line (Some name) =
    line (codes "name " ++ (guid_text name.guid ++ (number_words (codes " at ") EXT_AT name.at ++ number_words (codes " size ") EXT_HEADER_LEN name.size)))

-- the text of a volume of this form, length and name with these files, and with these pads in front of each of them
abbrev pub IsVolumeText : (List ℕ → List ℕ → Type 0) → VolumeForm → ℕ → Option VolumeName → List (List NewFile) → List NewFile → List ℕ → Type 0
IsVolumeText Inner form len name pads files text =
    (texts : List (List ℕ)) × AreEach (IsFileText Inner) files texts
    × (text ≡ volume_line form len ++ (name_line name ++ (with_pads pads texts ++ line (codes "end"))))
