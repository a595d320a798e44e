-- The base that `top` finds.
use Rattle.std.proofs.Common.{◌≡◌, ℕ, ◌^◌, ◌<◌, List, Option, subst}
use Rattle.gcd_map.specs.{declared.state.GcdKind.GcdKind, declared.range.GcdRange.GcdRange, SpaceMap.MapState, SpaceMap.Shows}
use Rattle.gcd_map.specs.AddressSpace.{MemorySpace, state_at, free_of}
use Rattle.gcd_map.specs.Tests.{IsHighest}
use Rattle.gcd_map.proofs.Highest.{IsTop, is_top}

pub tops : (map : MapState) (space : MemorySpace) (kind : GcdKind) (align len unit : ℕ) (ranges : List GcdRange) (highest : Option ℕ) → Shows map space → ranges ≡ map.ranges → unit ≡ 2 ^ align → 0 < len
    → IsHighest ranges (free_of kind) unit len highest → IsTop (state_at space) 0 space.limit (free_of kind) (2 ^ align) len highest
tops map space kind align len unit ranges highest shows is power some h =
    is_top (state_at space) 0 space.limit map.ranges (free_of kind) (2 ^ align) len highest shows.ranges.covered shows.ranges.merged some
    (subst (λ (n : ℕ). IsHighest map.ranges (free_of kind) n len highest) power (subst (λ (l : List GcdRange). IsHighest l (free_of kind) unit len highest) is h))
