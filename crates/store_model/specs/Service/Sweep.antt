-- The pairs that a sweep has still to visit, and the first that fires: the GUID of the descriptor that now is in the PPI's place is the callback's. PI 1.8,
-- volume 1, `NotifyPpi()`; the order, PPI by PPI and then by registration, is own.
use Rattle.std.specs.Prelude.{ℕ, ◌+◌, ◌-◌, Bool, false, if◌then◌else◌, nat_le, List, [], ◌∷◌, ◌++◌, map, Option, Some, None, option_map, flat_map, slice_get, option_and_then}
use Rattle.store_model.specs.{declared.store_handle.Sweep.Sweep, declared.store_handle.Firing.Firing, StoreState.StoreState}
use Rattle.pi_base.specs.{Guids.same_guid, Lists.numbers}
use Rattle.store_model.specs.Service.Descriptor.{guid_at, number_at}

-- what a notification receives, by the places of the two descriptors
abbrev pub firing_of : StoreState → ℕ → ℕ → Firing
firing_of s ppi note = record { entry = number_at s note; ppi = record { offset = ppi }; guid = guid_at s ppi; value = number_at s ppi }

-- the pairs of one PPI with the callbacks from one on
abbrev pub pairs_with : Sweep → ℕ → ℕ → List (ℕ × ℕ)
pairs_with sweep from ppi = map (λ note. (ppi, note)) (numbers from (sweep.note_to - from))

-- the pairs that are left, by their places in the two lists: those of the present PPI, then those of each later one
abbrev pub pairs_left : Sweep → List (ℕ × ℕ)
pairs_left sweep =
    if nat_le sweep.ppi_to sweep.ppi_at then []
    else pairs_with sweep sweep.note_at sweep.ppi_at
    ++ flat_map (pairs_with sweep sweep.note_from) (numbers (sweep.ppi_at + 1) (sweep.ppi_to - sweep.ppi_at - 1))

-- the places of the descriptors that now are there
abbrev pub places_at : StoreState → (ℕ × ℕ) → Option (ℕ × ℕ)
places_at s pair =
    option_and_then (λ ppi. option_map (λ note. (ppi.descriptor, note.descriptor)) (slice_get s.callbacks pair.1))
    (slice_get s.ppis pair.0)

-- whether the PPI and the callback at two places have one GUID
abbrev pub have_one_guid : StoreState → Option (ℕ × ℕ) → Bool
have_one_guid s None = false
have_one_guid s (Some places) = same_guid (guid_at s places.0) (guid_at s places.1)

-- what fires at a pair, and the sweep after it
abbrev pub firing_at : StoreState → Sweep → (ℕ × ℕ) → Option (Firing × Sweep)
firing_at s sweep pair =
    option_map (λ places. (firing_of s places.0 places.1, record sweep { ppi_at = pair.0; note_at = pair.1 + 1 })) (places_at s pair)

-- the first of these pairs that fires now
abbrev pub first_firing : StoreState → Sweep → List (ℕ × ℕ) → Option (Firing × Sweep)
first_firing s sweep [] = None
first_firing s sweep (pair ∷ pairs) = if have_one_guid s (places_at s pair) then firing_at s sweep pair else first_firing s sweep pairs

-- the next pair of a sweep that fires, and the sweep after it; nothing if the sweep is over
abbrev pub next_match : StoreState → Sweep → Option (Firing × Sweep)
next_match s sweep = first_firing s sweep (pairs_left sweep)
