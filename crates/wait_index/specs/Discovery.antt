-- The parts of a volume come: each waits, and a driver with SOR is closed until it is requested.
use Rattle.std.specs.Prelude.{◌≡◌, ℕ, Bool, true, false, not, List, ◌++◌, length, Option, Some}
use Rattle.pi_base.specs.{declared.phase.Phase.Phase, declared.phase.Phase.TheVariants.Pei, declared.phase.Phase.TheVariants.Dxe}
use Rattle.mod_catalog.specs.{declared.catalogue.Catalog.Catalog, declared.catalogue.Part.Part, Parts.has_number, Parts.part_at}
use Rattle.boot_model.specs.DxeChoice.{asks_for_request}
use Rattle.wait_index.specs.{declared.verdict.Verdict.TheVariants.No, declared.standing.Standing.Standing, declared.places.Places.Places}
use Rattle.wait_index.specs.Places.{order_of, standing_of}

abbrev pub new_standing : ℕ → Bool → Standing
new_standing place is_open = record { place = Some place; waits = true; «open» = is_open; again = false; verdict = No }

-- whether a part is open when it comes
abbrev pub opens : Phase → Option Part → Bool
opens Pei part = true
opens Dxe part = not (asks_for_request part)

-- a part that came
pub record IsNew (is_open : Bool) (s : Standing) : Type 0 where
  pub waits : s.waits ≡ true
  pub again : s.again ≡ false
  pub «open» : s.«open» ≡ is_open

-- these parts were added, and the standing of the others is unchanged
pub record HaveCome (phase : Phase) (catalog : Catalog) (parts : List ℕ) (old new : Places) : Type 0 where
  pub order : order_of new ≡ order_of old ++ parts
  pub new_ones : (number : ℕ) → has_number parts number ≡ true → IsNew (opens phase (part_at phase catalog number)) (standing_of new number)
  pub others : (number : ℕ) → has_number parts number ≡ false → standing_of new number ≡ standing_of old number
  pub as_many : length new.standings ≡ length old.standings
