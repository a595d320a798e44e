-- A volume that is read of the text of another one.
use Rattle.std.specs.Prelude.{◌≡◌, ◌⊎◌, ℕ, ◌<◌, ◌^◌, ⊤, List, [], ◌∷◌, ◌++◌, length, Option, Some, None, Ok, All, true}
use Rattle.hex.specs.Hex.{IsBytes}
use Rattle.line_words.specs.PrintedWords.{IsGuid}
use Rattle.fv_volume.specs.{declared.build.new_file.NewFile.NewFile, declared.build.new_file.NewSection.NewSection}
use Rattle.fv_volume.specs.declared.build.new_file.Body.{Body}
use Rattle.fv_volume.specs.declared.build.new_file.Body.TheVariants.{Sections, Bytes}
use Rattle.fv_volume.specs.{declared.build.volume_header.VolumeForm.VolumeForm, declared.build.volume_name.VolumeName.VolumeName}
use Rattle.fv_volume.specs.Reading.{AreEach}
use Rattle.volume_text.specs.{declared.volume.OpenVolume.OpenVolume, Open.built_of}
use Rattle.volume_text.specs.Text.{Describes, Says, Leads}
use Rattle.volume_print.specs.Spelling.{holds_volume, host_of}

-- types and bytes are below 256
abbrev pub IsOfBytes : NewSection → Type 0
IsOfBytes section = (section.kind < 256) × IsBytes section.body

abbrev pub IsBodyOfBytes : Body → Type 0
IsBodyOfBytes (Sections sections) = All IsOfBytes sections
IsBodyOfBytes (Bytes bytes) = IsBytes bytes

-- a name of bytes, whose place and size their fields can tell
abbrev pub IsNameOfBytes : Option VolumeName → Type 0
IsNameOfBytes None = ⊤
IsNameOfBytes (Some name) = IsGuid name.guid × (name.at < 2 ^ 16) × (name.size < 2 ^ 32)

pub record IsFileOfBytes (file : NewFile) : Type 0 where
  pub kind : file.kind < 256
  pub name : IsGuid file.name
  pub body : IsBodyOfBytes file.body

-- a section of a file is the other one, or both are volumes of one length and the second is that of the text of the first
abbrev pub IsSectionAgain : (List ℕ → List ℕ → Type 0) → NewFile → NewSection → NewSection → Type 0
IsSectionAgain Inner file section again =
    (again.kind ≡ section.kind) × (length again.body ≡ length section.body)
    × ((again.body ≡ section.body) ⊎ ((holds_volume (host_of file) section.kind ≡ true) × ((text : List ℕ) × Inner section.body text × Leads text again.body)))

abbrev pub IsBodyAgain : (List ℕ → List ℕ → Type 0) → NewFile → Body → Body → Type 0
IsBodyAgain Inner file (Sections sections) (Sections others) = AreEach (IsSectionAgain Inner file) sections others
IsBodyAgain Inner file (Bytes bytes) (Bytes others) = others ≡ bytes
IsBodyAgain Inner file _ _ = ⊥

-- a file has the type, the name, the attributes and the sections or the body of the other one
pub record IsFileAgain (Inner : List ℕ → List ℕ → Type 0) (file again : NewFile) : Type 0 where
  pub kind : again.kind ≡ file.kind
  pub name : again.name ≡ file.name
  pub attributes : again.attributes ≡ file.attributes
  pub body : IsBodyAgain Inner file file.body again.body

-- files, each behind its pads
abbrev pub among : List (List NewFile) → List NewFile → List NewFile
among [] files = []
among (pads ∷ others) [] = []
among (pads ∷ others) (file ∷ files) = pads ++ (file ∷ among others files)

-- a text describes a volume of this form, length and name with these files again, each behind these pads, and leads to its bytes where nothing stands
-- against it
pub record SaysAgain (Inner : List ℕ → List ℕ → Type 0) (form : VolumeForm) (len : ℕ) (name : Option VolumeName) (pads : List (List NewFile)) (files : List NewFile)
    (text : List ℕ) : Type 0 where
  pub volume : OpenVolume
  pub again : List NewFile
  pub form_is : volume.form ≡ form
  pub len_is : volume.len ≡ len
  pub name_is : volume.name ≡ name
  pub files_are : AreEach (IsFileAgain Inner) files again
  pub padded : volume.files ≡ among pads again
  pub describes : Describes text volume
  pub says : (bytes : List ℕ) → built_of volume ≡ Ok bytes → Says text bytes
  pub leads : (bytes : List ℕ) → built_of volume ≡ Ok bytes → Leads text bytes
