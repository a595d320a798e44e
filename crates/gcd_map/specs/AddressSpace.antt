-- The memory space as the state of each of its addresses: the one that the last change of the address gave it. PI 1.8, volume 2, "Global Coherency Domain
-- Services".
use Rattle.std.specs.Prelude.{ℕ, ◌+◌, ◌&&◌, nat_le, nat_lt, if◌then◌else◌, true, false, List, [], ◌∷◌, ◌++◌, fold}
use Rattle.gcd_map.specs.{declared.state.GcdKind.GcdKind, declared.state.GcdKind.TheVariants.NonExistent}
use Rattle.gcd_map.specs.{declared.state.SpaceState.SpaceState, declared.state.Effect.Effect}
use Rattle.gcd_map.specs.declared.state.Effect.TheVariants.{Becomes, Freed}

abbrev pub free_of : GcdKind → SpaceState
free_of kind = record { kind = kind; allocated = false }

abbrev pub allocated_of : GcdKind → SpaceState
allocated_of kind = record { kind = kind; allocated = true }

-- an address that a change holds
abbrev pub after_effect : Effect → SpaceState → SpaceState
after_effect (Becomes state) old = state
after_effect Freed old = free_of old.kind

-- what an accepted command does to the `len` addresses from `base` on
pub record Change : Type 0 where
  pub base : ℕ
  pub len : ℕ
  pub effect : Effect

-- the states of the addresses after one change more
abbrev pub changed : (ℕ → SpaceState) → Change → ℕ → SpaceState
changed space change address =
    if nat_le change.base address && nat_lt address (change.base + change.len) then after_effect change.effect (space address) else space address

-- the state of each address before all changes
abbrev pub untouched : ℕ → SpaceState
untouched address = free_of NonExistent

-- the state of each address after changes, the last of them last
abbrev pub state_after : List Change → ℕ → SpaceState
state_after changes = fold changed untouched changes

-- the addresses below the limit, and the changes so far
pub record MemorySpace : Type 0 where
  pub limit : ℕ
  pub changes : List Change

-- nothing is there
abbrev pub empty_space : ℕ → MemorySpace
empty_space limit = record { limit = limit; changes = [] }

abbrev pub state_at : MemorySpace → ℕ → SpaceState
state_at space = state_after space.changes

-- after one change more
abbrev pub with_change : MemorySpace → Change → MemorySpace
with_change space change = record space { changes = space.changes ++ change ∷ [] }

abbrev pub add_change : GcdKind → ℕ → ℕ → Change
add_change kind base len = record { base = base; len = len; effect = Becomes (free_of kind) }

abbrev pub allocate_change : GcdKind → ℕ → ℕ → Change
allocate_change kind base len = record { base = base; len = len; effect = Becomes (allocated_of kind) }

abbrev pub free_change : ℕ → ℕ → Change
free_change base len = record { base = base; len = len; effect = Freed }

abbrev pub remove_change : ℕ → ℕ → Change
remove_change base len = record { base = base; len = len; effect = Becomes (free_of NonExistent) }
