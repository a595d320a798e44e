-- An index is told which GUIDs are installed, one after the other.
-- Own.
use Rattle.std.specs.Prelude.{◌≡◌, ℕ, ◌+◌, ◌≤◌, Bool, true, false, List, ◌++◌, sum_by, Some}
use Rattle.pi_base.specs.{declared.guid.Guid.Guid, GuidMap.value_of}
use Rattle.mod_catalog.specs.declared.catalogue.Catalog.{Catalog}
use Rattle.boot_model.specs.EvaluationBound.{each_once}
use Rattle.boot_laws.specs.ChangedGuids.{is_among}
use Rattle.wait_index.specs.declared.index.WaitIndex.{WaitIndex}
use Rattle.wait_index.specs.Index.{IsIndex, has_in, owed, asked}

-- of these GUIDs the index knows whether they are installed, where anything asks for them
abbrev pub AreKnown : (Guid → Bool) → List Guid → WaitIndex → Type 0
AreKnown has guids index = (guid : Guid) (slot : ℕ) → value_of index.installed.slots guid ≡ Some slot → is_among guid guids ≡ true → has_in index guid ≡ has guid

-- it knows it of more GUIDs behind those that it knew, and of each other one what it did; what has to be evaluated grows by the waiting parts that push one of them, counted once for each
pub record IsNoted (catalog : Catalog) (has : Guid → Bool) (before more : List Guid) (old new : WaitIndex) : Type 0 where
  pub of_catalog : IsIndex catalog new
  pub known : AreKnown has (before ++ more) new
  pub others : (guid : Guid) (slot : ℕ) → value_of old.installed.slots guid ≡ Some slot → is_among guid more ≡ false → has_in new guid ≡ has_in old guid
  pub phase : new.phase ≡ old.phase
  pub slots : new.installed.slots ≡ old.installed.slots
  pub order : new.places.order ≡ old.places.order
  pub standings : new.places.standings ≡ old.places.standings
  pub few : owed new + sum_by (asked catalog old) (each_once before) ≤ owed old + sum_by (asked catalog old) (each_once (before ++ more))
