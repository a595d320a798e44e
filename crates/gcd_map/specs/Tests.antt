-- Tests of ranges, one after another, that cover each address of a stretch.
use Rattle.std.specs.Prelude.{◌≡◌, ◌⊎◌, ℕ, zero, suc, ◌+◌, ◌%◌, ◌<◌, ◌≤◌, List, [], ◌∷◌, length, Option, Some, None}
use Rattle.gcd_map.specs.{declared.state.SpaceState.SpaceState, declared.range.GcdRange.GcdRange, declared.need.Need.Need, Ranges.state_of}
use Rattle.gcd_map.specs.declared.need.Need.TheVariants.{Absent, Present, Allocated, Free, FreeOf}
use Rattle.gcd_map.specs.Commands.{IsAbsent, IsPresent, IsAllocated, IsFree, IsFreeOf, IsNotFreeOf}

-- the state is as it is needed
abbrev pub Meets : Need → SpaceState → Type 0
Meets Absent = IsAbsent
Meets Present = IsPresent
Meets Allocated = IsAllocated
Meets Free = IsFree
Meets (FreeOf kind) = IsFreeOf kind

-- the state is not
abbrev pub Misses : Need → SpaceState → Type 0
Misses Absent = IsPresent
Misses Present = IsAbsent
Misses Allocated = IsFree
Misses Free = IsAllocated
Misses (FreeOf kind) = IsNotFreeOf kind

-- each range with a base below the end is as needed
abbrev pub EachMeets : Need → ℕ → List GcdRange → Type 0
EachMeets need end [] = Unit {0}
EachMeets need end (range ∷ ranges) = range.base < end → Meets need (state_of range) × EachMeets need end ranges

-- some range with a base below the end is not
abbrev pub SomeMisses : Need → ℕ → List GcdRange → Type 0
SomeMisses need end [] = ⊥
SomeMisses need end (range ∷ ranges) = (range.base < end) × (Misses need (state_of range) ⊎ SomeMisses need end ranges)

-- the range at an index is the first, or begins at or below the address; the next one, if there is one, begins above it
abbrev pub base_at : List GcdRange → ℕ → ℕ
base_at [] at = 0
base_at (range ∷ ranges) zero = range.base
base_at (range ∷ ranges) (suc at) = base_at ranges at

abbrev pub IsRangeOf : List GcdRange → ℕ → ℕ → Type 0
IsRangeOf ranges address at = (at < length ranges) × (base_at ranges at ≤ address) × (suc at < length ranges → address < base_at ranges (suc at))

-- the highest base in the range that is a multiple of the unit and has so many addresses from there on
abbrev pub IsRoomIn : GcdRange → ℕ → ℕ → ℕ → Type 0
IsRoomIn range unit len base = (base % unit ≡ 0) × (range.base ≤ base) × (base + len ≤ range.base + range.len)

abbrev pub IsHighestIn : GcdRange → SpaceState → ℕ → ℕ → Option ℕ → Type 0
IsHighestIn range state unit len None = state_of range ≡ state → (base : ℕ) → IsRoomIn range unit len base → ⊥
IsHighestIn range state unit len (Some base) =
    (state_of range ≡ state) × IsRoomIn range unit len base × ((other : ℕ) → IsRoomIn range unit len other → other ≤ base)

-- the highest base in the last range that has one
abbrev pub IsHighest : List GcdRange → SpaceState → ℕ → ℕ → Option ℕ → Type 0
IsHighest [] state unit len highest = highest ≡ None
IsHighest (range ∷ ranges) state unit len highest =
    ((base : ℕ) × (highest ≡ Some base) × IsHighest ranges state unit len highest)
    ⊎ (IsHighest ranges state unit len None × IsHighestIn range state unit len highest)
