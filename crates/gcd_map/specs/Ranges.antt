-- A list of ranges that shows the states of a space's addresses: in order of base, none empty, without a gap, and no two neighbours of one state.
use Rattle.std.specs.Prelude.{◌≡◌, ◌≢◌, ℕ, ◌+◌, ◌^◌, ◌<◌, List, [], ◌∷◌}
use Rattle.gcd_map.specs.{declared.state.SpaceState.SpaceState, declared.range.GcdRange.GcdRange, Stretch.AllIn}

abbrev pub state_of : GcdRange → SpaceState
state_of range = record { kind = range.kind; allocated = range.allocated }

-- the range ends below 2 ^ 64
abbrev pub DoesFit : GcdRange → Type 0
DoesFit range = range.base + range.len < 2 ^ 64

-- the ranges follow one another, from one address to another, and each address has its range's state
abbrev pub Cover : (ℕ → SpaceState) → ℕ → List GcdRange → ℕ → Type 0
Cover space from [] to = from ≡ to
Cover space from (range ∷ ranges) to =
    (range.base ≡ from) × (0 < range.len) × AllIn space from (from + range.len) (λ state. state ≡ state_of range) × Cover space (from + range.len) ranges to

-- the first of the ranges, if there is one, has another state
abbrev pub BeginsOther : SpaceState → List GcdRange → Type 0
BeginsOther state [] = Unit {0}
BeginsOther state (range ∷ ranges) = state ≢ state_of range

-- neighbours differ
abbrev pub Differ : List GcdRange → Type 0
Differ [] = Unit {0}
Differ (range ∷ ranges) = BeginsOther (state_of range) ranges × Differ ranges
