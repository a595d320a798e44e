-- The callbacks that are left of a sweep's present PPI, and the first pair of the sweep that fires.
-- PI 1.8, volume 1, `NotifyPpi()`.
use Rattle.std.specs.Prelude.{◌≡◌, ℕ, ◌<◌, ◌≤◌, ◌+◌, length, slice_get, Option, Some, None}
use Rattle.pi_base.specs.declared.guid.Guid.{Guid}
use Rattle.store_model.specs.{declared.state.Entry.Entry, declared.store_handle.EntryList.TheVariants.Callbacks}
use Rattle.store_model.specs.{declared.store_handle.Sweep.Sweep, StoreState.StoreState}
use Rattle.store_model.specs.Service.Descriptor.{guid_at, number_at}
use Rattle.store_model.specs.Service.Sweep.{first_firing, firing_at, next_match, pairs_with}
use Rattle.pei_heap.specs.{declared.links.sweep.Match.Match, declared.links.sweep.Pair.Pair, Walk.StandsAt}

-- the callbacks from one place to another, the first of which has its node at an address
pub record AreCallbacks (s : StoreState) (first : ℕ) (from : ℕ) (to : ℕ) : Type 0 where
  pub stands : StandsAt s Callbacks from first
  pub there : to ≤ length s.callbacks

-- the PPI of a sweep's row, with its GUID
pub record IsRow (s : StoreState) (sweep : Sweep) (ppi : ℕ) (to : ℕ) (guid : Guid) : Type 0 where
  pub entry : Entry
  pub there : slice_get s.ppis ppi ≡ Some entry
  pub guid_is : guid ≡ guid_at s entry.descriptor
  pub to_is : sweep.note_to ≡ to

-- the first pair of the row that fires, or none of the row fires
pub record IsMatchAt (s : StoreState) (sweep : Sweep) (ppi : ℕ) (from : ℕ) (found : Match) : Type 0 where
  pub note : Entry
  pub there : slice_get s.callbacks found.place ≡ Some note
  pub entry_is : found.entry ≡ number_at s note.descriptor
  pub inside : found.place < sweep.note_to
  pub fires : first_firing s sweep (pairs_with sweep from ppi) ≡ firing_at s sweep (ppi, found.place)

abbrev pub IsFirstMatch : StoreState → Sweep → ℕ → ℕ → Option Match → Type 0
IsFirstMatch s sweep ppi from (Some found) = IsMatchAt s sweep ppi from found
IsFirstMatch s sweep ppi from None = first_firing s sweep (pairs_with sweep from ppi) ≡ None

-- the first pair of the sweep that fires and the place of the sweep after it, or none is left
abbrev pub IsNextPair : StoreState → Sweep → Option Pair → Type 0
IsNextPair s sweep (Some pair) =
    (next_match s sweep ≡ Some (pair.firing, record sweep { ppi_at = pair.ppi; note_at = pair.note + 1 })) × (pair.note < sweep.note_to)
IsNextPair s sweep None = next_match s sweep ≡ None
