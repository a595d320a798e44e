-- How the fuel of a phase is spent: one for each action.
-- Own.
use Rattle.std.specs.Prelude.{◌≡◌, ◌≤◌, ◌<◌, ◌+◌, Bool, true, false}
use Rattle.phase_parts.specs.declared.fuel.Fuel.{Fuel}

-- one action more was counted
pub record HasSpent (fuel later : Fuel) : Type 0 where
  pub left : fuel.taken < fuel.limit
  pub counted : later ≡ record fuel { taken = fuel.taken + 1 }

-- as many were taken as may be
pub record IsSpent (fuel later : Fuel) : Type 0 where
  pub none : fuel.limit ≤ fuel.taken
  pub same : later ≡ fuel

-- by the answer
abbrev pub Spends : Fuel → Bool → Fuel → Type 0
Spends fuel true later = HasSpent fuel later
Spends fuel false later = IsSpent fuel later
