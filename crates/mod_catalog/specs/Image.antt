-- The image of a volume in the code's form: its bytes, and where they are.
use Rattle.std.specs.Prelude.{ℕ, ◌+◌, ◌<◌, ◌^◌, List, length}
use Rattle.mod_catalog.specs.{declared.location.Location.Location, VolumeTree.Image}

abbrev pub image_of : List ℕ → Location → Image
image_of bytes location = record { bytes = bytes; location = location }

-- offsets of these bytes, the first of which is at `at`, have room after them
abbrev pub AreOffsets : ℕ → List ℕ → Type 0
AreOffsets at bytes = at + length bytes < 2 ^ 63

-- the addresses and the offsets of these bytes are numbers of 64 bits
pub record IsLow (bytes : List ℕ) (location : Location) : Type 0 where
  pub base : location.base + length bytes < 2 ^ 64
  pub at : AreOffsets location.at bytes
