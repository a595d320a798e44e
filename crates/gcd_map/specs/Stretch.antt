-- What holds of the states of a stretch of addresses, those from one address on below another.
use Rattle.std.specs.Prelude.{ℕ, ◌<◌, ◌≤◌}
use Rattle.gcd_map.specs.declared.state.SpaceState.{SpaceState}

-- each address has such a state
abbrev pub AllIn : (ℕ → SpaceState) → ℕ → ℕ → (SpaceState → Type 0) → Type 0
AllIn space base end P = (address : ℕ) → base ≤ address → address < end → P (space address)

-- some address has such a state
abbrev pub SomeIn : (ℕ → SpaceState) → ℕ → ℕ → (SpaceState → Type 0) → Type 0
SomeIn space base end P = (address : ℕ) × (base ≤ address) × (address < end) × P (space address)
