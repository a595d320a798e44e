-- A PPI and a callback of one GUID, by their places in the lists that an index has, and the pairs of a sweep.
-- PI 1.8, volume 1, `NotifyPpi()`; the places are own.
use Rattle.std.specs.Prelude.{◌≡◌, ℕ, ◌+◌, ◌<◌, ◌≤◌, Bool, true, false, Option, Some, None, option_map, slice_get, unwrap_or}
use Rattle.store_model.specs.{declared.store_handle.Firing.Firing, declared.store_handle.Sweep.Sweep, StoreState.StoreState}
use Rattle.store_model.specs.Service.Sweep.{firing_at, next_match}
use Rattle.mem_store.specs.{Entries.has_at, declared.index.Index.Index}
use Rattle.mem_store.specs.Indexed.{Rows, all_rows, held}

-- whether the PPI in a place and the callback in another have one GUID
abbrev pub meets : Rows → ℕ → ℕ → Bool
meets rows ppi note = unwrap_or (option_map (λ row. has_at rows.callbacks row.guid note) (slice_get rows.ppis ppi)) false

-- the first callback that meets a PPI, from one place on and before another
abbrev pub IsFirstMet : Rows → (ppi from to : ℕ) → Option ℕ → Type 0
IsFirstMet rows ppi from to (Some note) =
    (from ≤ note) × (note < to) × (meets rows ppi note ≡ true) × ((other : ℕ) → from ≤ other → other < note → meets rows ppi other ≡ false)
IsFirstMet rows ppi from to None = (other : ℕ) → from ≤ other → other < to → meets rows ppi other ≡ false

-- none of the PPIs from one place on and before another meets a callback of a sweep
abbrev pub NoneMeets : Rows → Sweep → (from to : ℕ) → Type 0
NoneMeets rows sweep from to =
    (ppi note : ℕ) → from ≤ ppi → ppi < to → sweep.note_from ≤ note → note < sweep.note_to → meets rows ppi note ≡ false

-- the pair of the sweep that fires next, of each state whose rows they are
abbrev pub FiresNext : StoreState → Rows → Sweep → Option (ℕ × ℕ) → Type 0
FiresNext s rows sweep (Some pair) =
    (next_match s sweep ≡ firing_at s sweep pair) × (meets rows pair.0 pair.1 ≡ true) × (pair.1 < sweep.note_to)
FiresNext s rows sweep None = next_match s sweep ≡ None

abbrev pub IsNextPair : Index → Sweep → Option (ℕ × ℕ) → Type 0
IsNextPair index sweep found = (s : StoreState) → held index ≡ all_rows s → FiresNext s (held index) sweep found

-- they meet by an index that is right
abbrev pub AreMet : Index → (ppi note : ℕ) → StoreState → Type 0
AreMet index ppi note s = (index.right ≡ true) × (meets (held index) ppi note ≡ true)

-- what a sweep tells the callback in a place of the PPI in another
abbrev pub IsFiring : StoreState → (ppi note : ℕ) → Firing → Type 0
IsFiring s ppi note firing = (sweep : Sweep) → firing_at s sweep (ppi, note) ≡ Some (firing, record sweep { ppi_at = ppi; note_at = note + 1 })
