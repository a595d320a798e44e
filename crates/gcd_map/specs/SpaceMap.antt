-- The memory space map of a memory space: the one list of ranges from 0 to the limit that shows its states.
use Rattle.std.specs.Prelude.{◌≡◌, ℕ, ◌^◌, ◌<◌, ◌≤◌, List}
use Rattle.gcd_map.specs.{declared.range.GcdRange.GcdRange, AddressSpace.MemorySpace, AddressSpace.state_at, Ranges.Cover, Ranges.Differ}

pub record IsSpaceMap (space : MemorySpace) (ranges : List GcdRange) : Type 0 where
  pub covered : Cover (state_at space) 0 ranges space.limit
  pub merged : Differ ranges

-- what the map of the code is: the address after the last, and the ranges
pub record MapState : Type 0 where
  pub limit : ℕ
  pub ranges : List GcdRange

-- the map shows that space, which has an address at least, and 2 ^ 52 at most
pub record Shows (map : MapState) (space : MemorySpace) : Type 0 where
  pub limit : map.limit ≡ space.limit
  pub some : 0 < space.limit
  pub most : space.limit ≤ 2 ^ 52
  pub ranges : IsSpaceMap space map.ranges

-- every map shows some space
abbrev pub ShowsSome : MapState → Type 0
ShowsSome map = (space : MemorySpace) × Shows map space

-- what a call that took memory spaces that its map shows leaves
abbrev pub AfterEach : MapState → MapState → (MemorySpace → MemorySpace → Type 0) → Type 0
AfterEach before now R = (old : MemorySpace) → Shows before old → (new : MemorySpace) × R old new × Shows now new
