-- The expressions of modules become stale.
use Rattle.std.specs.Prelude.{◌≡◌, ℕ, ◌+◌, ◌≤◌, Bool, true, false, ◌&&◌, List, length, filter, Some, is_some}
use Rattle.wait_index.specs.{PlaceFlags.flag, PlaceFlags.count, declared.places.Places.Places, Places.standing_of}
use Rattle.mod_catalog.specs.Parts.{has_number}

-- whether the part of a module has a place and waits
abbrev pub is_asked : Places → ℕ → Bool
is_asked places number = (standing_of places number).waits && is_some (standing_of places number).place

-- the places of those of these modules that wait are stale, and those that were; no more are stale than these modules that wait
pub record IsRoused (numbers : List ℕ) (old new : Places) : Type 0 where
  pub order : new.order ≡ old.order
  pub standings : new.standings ≡ old.standings
  pub ready : new.ready ≡ old.ready
  pub later : new.later ≡ old.later
  pub still : (place : ℕ) → flag new.stale place ≡ false → flag old.stale place ≡ false
  pub roused : (number place : ℕ) → has_number numbers number ≡ true → (standing_of old number).waits ≡ true → (standing_of old number).place ≡ Some place → flag new.stale place ≡ true
  pub owed : count new.stale ≤ count old.stale + length (filter (is_asked old) numbers)
