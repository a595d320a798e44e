-- A memory space has one map.
use Rattle.std.specs.Prelude.{◌≡◌, ℕ, ◌<◌, List}
use Rattle.gcd_map.specs.{declared.range.GcdRange.GcdRange, AddressSpace.MemorySpace, AddressSpace.state_at, SpaceMap.IsSpaceMap}

-- spaces of one limit whose addresses below it have the same states have the same map
abbrev pub OneMap : Type 0
OneMap = (a b : MemorySpace) (xs ys : List GcdRange) → a.limit ≡ b.limit → ((address : ℕ) → address < a.limit → state_at a address ≡ state_at b address)
    → IsSpaceMap a xs → IsSpaceMap b ys → xs ≡ ys
