-- What is inside what: sections in their file, files in their volume, and stretches below an end.
use Rattle.std.specs.Prelude.{ℕ, ◌+◌, ◌≤◌, List, length, All}
use Rattle.pi_base.specs.Lists.{Each}
use Rattle.fv_volume.specs.{declared.file.FfsFile.FfsFile, declared.sections.section.Section.Section}
use Rattle.mod_catalog.specs.{declared.read_file.ReadFile.ReadFile, declared.read_file.Stretch.Stretch}

-- the body of a section is inside that of its file
abbrev pub LiesIn : FfsFile → Section → Type 0
LiesIn file section = section.body_at + section.body_len ≤ file.body_len

abbrev pub LieIn : FfsFile → List Section → Type 0
LieIn file sections = All (LiesIn file) sections

-- the body of a file is inside the bytes, and those of its sections are inside it
abbrev pub IsPlaced : List ℕ → ReadFile → Type 0
IsPlaced bytes read = (read.file.body_at + read.file.body_len ≤ length bytes) × LieIn read.file read.sections

abbrev pub ArePlaced : List ℕ → List ReadFile → Type 0
ArePlaced bytes reads = All (IsPlaced bytes) reads

-- stretches are below an end
abbrev pub AreStretchesBelow : ℕ → List Stretch → Type 0
AreStretchesBelow end stretches = Each (λ stretch. stretch.at + stretch.len ≤ end) stretches
