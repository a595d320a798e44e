-- How far bytes agree with a piece.
-- Own.
use Rattle.std.specs.Prelude.{◌≡◌, ◌≢◌, ℕ, ◌≤◌, ◌<◌, List, length, take, slice_get}

-- the piece agrees with the bytes up to this place, and no further
pub record IsOtherAt (bytes piece : List ℕ) (place : ℕ) : Type 0 where
  pub there : place ≤ length bytes
  pub within : place < length piece
  pub same : take place bytes ≡ take place piece
  pub other : slice_get bytes place ≢ slice_get piece place
