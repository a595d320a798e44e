-- A set of places as a flag for each place: whether a place is in it, how many are, and the first one from a place on.
use Rattle.std.specs.Prelude.{◌≡◌, ℕ, ◌+◌, ◌/◌, ◌<◌, ◌≤◌, Bool, true, false, ◌||◌, ◌&&◌, List, [], ◌∷◌, Option, Some, None, unwrap_or, slice_get, if◌then◌else◌}
use Rattle.wait_index.specs.declared.search.TheConstants.{BLOCK}

-- whether a place is in the set
abbrev pub flag : List Bool → ℕ → Bool
flag flags place = unwrap_or (slice_get flags place) false

-- how many places are in the set
abbrev pub count : List Bool → ℕ
count [] = 0
count (is_in ∷ flags) = (if is_in then 1 else 0) + count flags

-- whether a place is in the set, or in the other one if both are asked
abbrev pub either : Bool → List Bool → List Bool → ℕ → Bool
either both flags more place = flag flags place || (both && flag more place)

-- the block of each place of the set is marked; a marked block may have no place of the set
abbrev pub AreMarked : List Bool → List Bool → Type 0
AreMarked flags blocks = (place : ℕ) → flag flags place ≡ true → flag blocks (place / BLOCK) ≡ true

-- the first place from `from` on that passes a test, or none if no place from there on passes it
abbrev pub IsFirst : (ℕ → Bool) → ℕ → Option ℕ → Type 0
IsFirst test from None = (place : ℕ) → from ≤ place → test place ≡ false
IsFirst test from (Some first) = (from ≤ first) × (test first ≡ true) × ((place : ℕ) → from ≤ place → place < first → test place ≡ false)
