-- What lines say, as whole lists (own): the blocks of a script, the files of a volume, and a volume.
use Rattle.std.specs.Prelude.{◌≡◌, ℕ, suc, true, false, List, [], ◌∷◌, ◌++◌, Option, Some, None, Ok}
use Rattle.pi_base.specs.{declared.guid.Guid.Guid, declared.phase.Phase.Phase}
use Rattle.fv_volume.specs.{declared.build.volume_name.VolumeName.VolumeName, Front.is_placed}
use Rattle.fv_volume.specs.declared.sections.section_type.TheConstants.{RAW, VOLUME_IMAGE}
use Rattle.fv_volume.specs.{declared.build.new_file.NewFile.NewFile, declared.build.attributes.FileAttributes.FileAttributes}
use Rattle.act_code.specs.{declared.action.Action.Action, Script.IsScript}
use Rattle.volume_text.specs.{declared.statement.Statement.Statement, declared.volume.OpenVolume.OpenVolume, Line.Reads}
use Rattle.volume_text.specs.declared.statement.Statement.TheVariants.{Volume, Name, File, Pad, Body, Section, Depex, Script, Block, End, Action as ActionLine}
use Rattle.volume_text.specs.Open.{holding, with_bytes, new_file, pad_file, depex_type, has_part, has_depex, has_script, built_of}
use Rattle.volume_text.specs.{Script.action_at, Script.script_of, Step.section_of}

-- the line says this
abbrev pub SaysLine : List ℕ → Statement → Type 0
SaysLine line said = Reads line (Ok said)

-- the lines of a script of a phase, between its own and its `end`, say these blocks
pub data SayBlocks (phase : Phase) : List (List ℕ) → List (List Action) → Type 0 where
  no_block : SayBlocks phase [] []
  block : (lines : List (List ℕ)) (blocks : List (List Action)) (line : List ℕ)
      → SayBlocks phase lines blocks → SaysLine line Block
      → SayBlocks phase (lines ++ line ∷ []) (blocks ++ [] ∷ [])
  action : (lines : List (List ℕ)) (blocks : List (List Action)) (actions : List Action) (line text : List ℕ) (one : Action)
      → SayBlocks phase lines (blocks ++ actions ∷ []) → SaysLine line (ActionLine text) → action_at phase text ≡ Ok one
      → SayBlocks phase (lines ++ line ∷ []) (blocks ++ (actions ++ one ∷ []) ∷ [])

-- the lines of a volume with a header of so many bytes, between its own and its `end`, say this name or none, and these files, with volumes in them at most
-- so many levels deep; what is in a file stands behind the file's own line
pub data SayFiles : ℕ → ℕ → List (List ℕ) → Option VolumeName → List NewFile → Type 0 where
  no_file : {deep header_len : ℕ} → SayFiles deep header_len [] None []
  named : {deep header_len : ℕ} (lines : List (List ℕ)) (files : List NewFile) (line : List ℕ) (name : VolumeName)
      → SayFiles deep header_len lines None files → SaysLine line (Name name) → is_placed header_len (Some name) ≡ true
      → SayFiles deep header_len (lines ++ line ∷ []) (Some name) files
  padded : {deep header_len : ℕ} (lines : List (List ℕ)) (called : Option VolumeName) (files : List NewFile) (line : List ℕ) (len : ℕ)
      → SayFiles deep header_len lines called files → SaysLine line (Pad len)
      → SayFiles deep header_len (lines ++ line ∷ []) called (files ++ pad_file len ∷ [])
  file : {deep header_len : ℕ} (lines : List (List ℕ)) (called : Option VolumeName) (files : List NewFile) (line : List ℕ) (kind : ℕ) (name : Guid) (attributes : FileAttributes)
      → SayFiles deep header_len lines called files → SaysLine line (File kind name attributes)
      → SayFiles deep header_len (lines ++ line ∷ []) called (files ++ new_file kind name attributes ∷ [])
  bodied : {deep header_len : ℕ} (lines : List (List ℕ)) (called : Option VolumeName) (files : List NewFile) (last next : NewFile) (line body : List ℕ)
      → SayFiles deep header_len lines called (files ++ last ∷ []) → SaysLine line (Body body) → with_bytes body last ≡ Ok next
      → SayFiles deep header_len (lines ++ line ∷ []) called (files ++ next ∷ [])
  section : {deep header_len : ℕ} (lines : List (List ℕ)) (called : Option VolumeName) (files : List NewFile) (last next : NewFile) (line : List ℕ) (kind : ℕ) (body : List ℕ)
      → SayFiles deep header_len lines called (files ++ last ∷ []) → SaysLine line (Section kind body) → holding (section_of kind body) last ≡ Ok next
      → SayFiles deep header_len (lines ++ line ∷ []) called (files ++ next ∷ [])
  depex : {deep header_len : ℕ} (lines : List (List ℕ)) (called : Option VolumeName) (files : List NewFile) (last next : NewFile) (line : List ℕ) (phase : Phase) (body : List ℕ)
      → SayFiles deep header_len lines called (files ++ last ∷ []) → SaysLine line (Depex phase body) → has_part last.kind phase ≡ true → has_depex phase last ≡ false
      → holding (section_of (depex_type phase) body) last ≡ Ok next
      → SayFiles deep header_len (lines ++ line ∷ []) called (files ++ next ∷ [])
  script : {deep header_len : ℕ} (lines : List (List ℕ)) (called : Option VolumeName) (files : List NewFile) (last next : NewFile) (line : List ℕ) (phase : Phase)
      (inner : List (List ℕ)) (blocks : List (List Action)) (end body : List ℕ)
      → SayFiles deep header_len lines called (files ++ last ∷ []) → SaysLine line (Script phase) → has_part last.kind phase ≡ true → has_script phase last ≡ false
      → SayBlocks phase inner blocks → SaysLine end End → IsScript body (script_of phase blocks)
      → holding (section_of RAW body) last ≡ Ok next
      → SayFiles deep header_len (lines ++ line ∷ (inner ++ end ∷ [])) called (files ++ next ∷ [])
  volume : {deep header_len : ℕ} (lines : List (List ℕ)) (called : Option VolumeName) (files : List NewFile) (last next : NewFile) (line : List ℕ) (inner : List (List ℕ)) (one : OpenVolume) (end body : List ℕ)
      → SayFiles (suc deep) header_len lines called (files ++ last ∷ []) → SaysLine line (Volume one.form one.len)
      → SayFiles deep one.form.header_len inner one.name one.files → SaysLine end End → built_of one ≡ Ok body
      → holding (section_of VOLUME_IMAGE body) last ≡ Ok next
      → SayFiles (suc deep) header_len (lines ++ line ∷ (inner ++ end ∷ [])) called (files ++ next ∷ [])

-- the lines are a volume's own, those of its files and its `end`, whether it can be built or not, with volumes in it at most so many levels deep
pub record SaysOpen (deep : ℕ) (lines : List (List ℕ)) (volume : OpenVolume) : Type 0 where
  pub line : List ℕ
  pub inner : List (List ℕ)
  pub end : List ℕ
  pub here : lines ≡ line ∷ (inner ++ end ∷ [])
  pub begins : SaysLine line (Volume volume.form volume.len)
  pub files : SayFiles deep volume.form.header_len inner volume.name volume.files
  pub ends : SaysLine end End

-- the lines, which are a volume's own, those of its files and its `end`, say the volume of these bytes, with volumes in it at most so many levels deep
pub record SaysVolume (deep : ℕ) (lines : List (List ℕ)) (bytes : List ℕ) : Type 0 where
  pub line : List ℕ
  pub inner : List (List ℕ)
  pub end : List ℕ
  pub volume : OpenVolume
  pub here : lines ≡ line ∷ (inner ++ end ∷ [])
  pub begins : SaysLine line (Volume volume.form volume.len)
  pub files : SayFiles deep volume.form.header_len inner volume.name volume.files
  pub ends : SaysLine end End
  pub built : built_of volume ≡ Ok bytes
