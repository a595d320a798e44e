-- The parts of the known volumes by place: the standing of each, and the sets of places that follow from it.
use Rattle.std.specs.Prelude.{◌≡◌, ℕ, ◌≤◌, Bool, true, false, ◌&&◌, ◌||◌, List, length, Some, None, unwrap_or, slice_get}
use Rattle.wait_index.specs.{PlaceFlags.flag, declared.verdict.Verdict.Verdict, declared.verdict.Verdict.TheVariants.No}
use Rattle.mod_catalog.specs.declared.limits.TheConstants.{MOST_MODULES}
use Rattle.wait_index.specs.{declared.standing.Standing.Standing, declared.places.Places.Places, Standing.is_ready, Standing.is_later}
use Rattle.wait_index.specs.Verdict.{lets}

-- the modules of the parts, by place
abbrev pub order_of : Places → List ℕ
order_of places = places.order.items

-- a module of which nothing is known
abbrev pub unknown : Standing
unknown = record { place = None; waits = false; «open» = false; again = false; verdict = No }

abbrev pub standing_of : Places → ℕ → Standing
standing_of places number = unwrap_or (slice_get places.standings number) unknown

-- each part has its one place, and the sets of places agree with the standings; after the last part no place is in a set
pub record IsInOrder (places : Places) : Type 0 where
  pub placed : (place number : ℕ) → slice_get (order_of places) place ≡ Some number → (standing_of places number).place ≡ Some place
  pub known : (number place : ℕ) → (standing_of places number).place ≡ Some place → slice_get (order_of places) place ≡ Some number
  pub ready : (place number : ℕ) → slice_get (order_of places) place ≡ Some number → flag places.ready place ≡ is_ready (standing_of places number)
  pub later : (place number : ℕ) → slice_get (order_of places) place ≡ Some number → flag places.later place ≡ is_later (standing_of places number)
  pub behind : (place : ℕ) → length (order_of places) ≤ place → (flag places.ready place ≡ false) × (flag places.later place ≡ false) × (flag places.stale place ≡ false)
  pub few : length (order_of places) ≤ MOST_MODULES

-- two standings are the same but for the verdict
pub record AreAlike (old new : Standing) : Type 0 where
  pub place : new.place ≡ old.place
  pub waits : new.waits ≡ old.waits
  pub «open» : new.«open» ≡ old.«open»
  pub again : new.again ≡ old.again

-- what an evaluation keeps
pub record IsKept (old new : Places) : Type 0 where
  pub order : order_of new ≡ order_of old
  pub alike : (number : ℕ) → AreAlike (standing_of old number) (standing_of new number)

-- if a part waits and its place is not stale, its verdict is the one that is due
abbrev pub AreJudged : (ℕ → Verdict) → Places → Type 0
AreJudged judge places = (place number : ℕ) → slice_get (order_of places) place ≡ Some number → (standing_of places number).waits ≡ true → flag places.stale place ≡ false
    → (standing_of places number).verdict ≡ judge number

-- whether a part may start: for the second time, or because it waits, is open, and its verdict allows it
abbrev pub is_due : Bool → (ℕ → Verdict) → Places → ℕ → Bool
is_due all judge places number =
    (standing_of places number).again || ((standing_of places number).waits && (standing_of places number).«open» && lets all (judge number))
