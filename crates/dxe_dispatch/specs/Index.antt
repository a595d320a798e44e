-- What the index of the waiting drivers becomes when drivers are scheduled, and when one is requested.
-- Own.
use Rattle.std.specs.Prelude.{◌≡◌, ◌≤◌, ℕ, Bool, true, false, ◌==◌, ◌&&◌, ◌||◌, not, List}
use Rattle.std.specs.List.{list_any}
use Rattle.mod_catalog.specs.{declared.catalogue.Catalog.Catalog, Parts.has_number}
use Rattle.boot_model.specs.declared.driver.Scheduled.{Scheduled}
use Rattle.wait_index.specs.declared.index.WaitIndex.{WaitIndex}
use Rattle.wait_index.specs.Index.{IsIndex, again_in, is_open_in, order_in, owed, waits_in}

-- whether a driver is among those that are scheduled
abbrev pub is_scheduled_in : List Scheduled → ℕ → Bool
is_scheduled_in scheduled number = list_any (λ next. next.module_number == number) scheduled

-- these drivers wait no more, by a test for them, and all else is as before
pub record WaitNoMore (left : ℕ → Bool) (old new : WaitIndex) : Type 0 where
  pub phase : new.phase ≡ old.phase
  pub installed : new.installed ≡ old.installed
  pub order : order_in new ≡ order_in old
  pub waits : (number : ℕ) → has_number (order_in old) number ≡ true → waits_in new number ≡ (not (left number) && waits_in old number)
  pub opens : (number : ℕ) → is_open_in new number ≡ is_open_in old number
  pub again : (number : ℕ) → again_in old number ≡ false → again_in new number ≡ false
  pub kept : (catalog : Catalog) → IsIndex catalog old → IsIndex catalog new
  pub owed : owed new ≤ owed old

-- one driver waits no more
abbrev pub WaitsNoMore : ℕ → WaitIndex → WaitIndex → Type 0
WaitsNoMore left old new = WaitNoMore (λ number. (left == number) || false) old new

-- one driver is open, and all else is as before
pub record IsRequested (asked : ℕ) (old new : WaitIndex) : Type 0 where
  pub phase : new.phase ≡ old.phase
  pub installed : new.installed ≡ old.installed
  pub order : order_in new ≡ order_in old
  pub waits : (number : ℕ) → waits_in new number ≡ waits_in old number
  pub opens : (number : ℕ) → has_number (order_in old) number ≡ true → is_open_in new number ≡ ((asked == number) || is_open_in old number)
  pub again : (number : ℕ) → again_in new number ≡ again_in old number
  pub kept : (catalog : Catalog) → IsIndex catalog old → IsIndex catalog new
  pub owed : owed new ≡ owed old
