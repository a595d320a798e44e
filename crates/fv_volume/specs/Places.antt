-- The places of a volume's files.
use Rattle.std.specs.Prelude.{ℕ, ◌+◌, ◌<◌, ◌≤◌, List, length, All, AllPairs}
use Rattle.fv_volume.specs.declared.file.FfsFile.{FfsFile}

-- each file's body is after its header in the bytes
abbrev pub AreInside : List ℕ → List FfsFile → Type 0
AreInside bytes files = All (λ file. (file.at < file.body_at) × (file.body_at + file.body_len ≤ length bytes)) files

-- each file's body ends at this offset or before it
abbrev pub AreWithin : ℕ → List FfsFile → Type 0
AreWithin len files = All (λ file. file.body_at + file.body_len ≤ len) files

-- each file is after those before it
abbrev pub AreInOrder : List FfsFile → Type 0
AreInOrder files = AllPairs (λ a b. (a.at < b.at) × (a.body_at + a.body_len ≤ b.at)) files
