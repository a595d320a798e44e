-- What the index of a phase's waiting parts stands for: the parts by place, the standing of each, and which of the GUIDs that they ask for are installed.
use Rattle.std.specs.Prelude.{◌≡◌, ℕ, ◌<◌, Bool, true, ◌&&◌, ◌||◌, List, [], length, filter, Option, Some, unwrap_or, slice_get, if◌then◌else◌}
use Rattle.pi_base.specs.{declared.guid.Guid.Guid, declared.phase.Phase.Phase, declared.phase.Phase.TheVariants.Dxe, GuidMap.value_of}
use Rattle.wait_index.specs.{PlaceFlags.flag, PlaceFlags.count, declared.installed.Installed.Installed, declared.standing.Standing.Standing}
use Rattle.boot_model.specs.{declared.known_guid.TheConstants.ARCHITECTURAL, EvaluationBound.part_pushes}
use Rattle.mod_catalog.specs.{declared.catalogue.Catalog.Catalog, declared.catalogue.Part.Part, Parts.part_at}
use Rattle.pi_base.specs.{Guids.same_guid, Lists.EachPair, Lists.numbers}
use Rattle.wait_index.specs.{declared.index.WaitIndex.WaitIndex, Change.IsChanged, Installed.is_there}
use Rattle.wait_index.specs.Places.{order_of, standing_of, IsKept, AreJudged}
use Rattle.wait_index.specs.Verdict.{verdict_in, verdict_of, lets, holds_by}

-- the modules by place
abbrev pub order_in : WaitIndex → List ℕ
order_in index = order_of index.places

abbrev pub place_in : WaitIndex → ℕ → Option ℕ
place_in index number = (standing_of index.places number).place

-- whether the part of a module waits, is open, and may start again
abbrev pub waits_in : WaitIndex → ℕ → Bool
waits_in index number = (standing_of index.places number).waits

abbrev pub is_open_in : WaitIndex → ℕ → Bool
is_open_in index number = (standing_of index.places number).«open»

abbrev pub again_in : WaitIndex → ℕ → Bool
again_in index number = (standing_of index.places number).again

-- whether a GUID is installed, if an expression asks for it
abbrev pub has_in : WaitIndex → Guid → Bool
has_in index guid = is_there index.installed guid

-- how many expressions must be evaluated
abbrev pub owed : WaitIndex → ℕ
owed index = count index.places.stale

-- whether that of the part at a place must be
abbrev pub is_owed : WaitIndex → ℕ → Bool
is_owed index place = flag index.places.stale place

-- the modules whose expressions push a GUID
abbrev pub watchers_of : Phase → Catalog → Guid → List ℕ
watchers_of phase catalog guid = filter (part_pushes phase catalog guid) (numbers 0 (length catalog.modules))

abbrev pub watchers_at : List (List ℕ) → ℕ → List ℕ
watchers_at watchers slot = unwrap_or (slice_get watchers slot) []

-- each GUID that an expression pushes has a slot of its own, with those that push it; in DXE so has each architectural protocol
pub record AreWatched (phase : Phase) (catalog : Catalog) (installed : Installed) (watchers : List (List ℕ)) : Type 0 where
  pub watched : (guid : Guid) (slot : ℕ) → value_of installed.slots guid ≡ Some slot → watchers_at watchers slot ≡ watchers_of phase catalog guid
  pub apart : (guid other : Guid) (slot : ℕ) → value_of installed.slots guid ≡ Some slot → value_of installed.slots other ≡ Some slot → same_guid guid other ≡ true
  pub room : (guid : Guid) (slot : ℕ) → value_of installed.slots guid ≡ Some slot → slot < length installed.there
  pub pushed : (guid : Guid) (number : ℕ) → part_pushes phase catalog guid number ≡ true → (slot : ℕ) × (value_of installed.slots guid ≡ Some slot)
  pub protocols : phase ≡ Dxe → EachPair (λ guid slot. value_of installed.slots guid ≡ Some slot) ARCHITECTURAL installed.protocols

-- the index stands for these: its parts are those of the catalogue, and what it knows of their expressions is what they say, unless they must be evaluated
pub record IsIndex (catalog : Catalog) (index : WaitIndex) : Type 0 where
  pub watched : AreWatched index.phase catalog index.installed index.watchers
  pub judged : AreJudged (verdict_of index.phase catalog (is_there index.installed)) index.places
  pub as_many : length index.places.standings ≡ length catalog.modules

-- whether a part may start: for the second time, or because it waits, is open, and its rank or its expression allows it
abbrev pub is_eligible_in : Catalog → WaitIndex → ℕ → Bool
is_eligible_in catalog index number =
    again_in index number || (waits_in index number && is_open_in index number && holds_by index.phase (has_in index) (part_at index.phase catalog number))

-- the parts that wait and push a GUID
abbrev pub asked : Catalog → WaitIndex → Guid → ℕ
asked catalog index guid = length (filter (λ number. waits_in index number && part_pushes index.phase catalog guid number) (order_in index))

-- all but what was evaluated is as before
pub record IsSame (old new : WaitIndex) : Type 0 where
  pub phase : new.phase ≡ old.phase
  pub installed : new.installed ≡ old.installed
  pub kept : IsKept old.places new.places

-- the standing of the part at a place changes, and all else stays
pub record Changes (change : Standing → Standing) (place : ℕ) (old new : WaitIndex) : Type 0 where
  pub phase : new.phase ≡ old.phase
  pub installed : new.installed ≡ old.installed
  pub changed : IsChanged change place old.places new.places

-- one GUID is installed or not, and the others are as before
pub record IsSet (catalog : Catalog) (guid : Guid) (there : Bool) (old new : WaitIndex) : Type 0 where
  pub phase : new.phase ≡ old.phase
  pub has : (other : Guid) (slot : ℕ) → value_of old.installed.slots other ≡ Some slot → has_in new other ≡ (if same_guid guid other then there else has_in old other)
  pub slots : new.installed.slots ≡ old.installed.slots
  pub order : new.places.order ≡ old.places.order
  pub standings : new.places.standings ≡ old.places.standings

-- that the GUID is installed, or is not, is what the index knows already, or nothing asks for it
abbrev pub IsKnown : Guid → Bool → WaitIndex → Type 0
IsKnown guid there index = (slot : ℕ) → value_of index.installed.slots guid ≡ Some slot → has_in index guid ≡ there

-- each part's verdict gives the truth of its expression, whether all architectural protocols are installed or not
abbrev pub Tells : WaitIndex → Bool → Type 0
Tells index all = (part : Option Part) → lets all (verdict_in index.phase (has_in index) part) ≡ holds_by index.phase (has_in index) part
