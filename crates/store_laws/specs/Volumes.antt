-- The bases of the volumes that HOBs report, by a walk over the headers.
-- Own.
use Rattle.std.specs.Prelude.{◌≡◌, ℕ, zero, suc, ◌+◌, ◌<◌, ◌==◌, if◌then◌else◌, List, [], ◌∷◌, length}
use Rattle.hob_codec.specs.declared.kind.TheConstants.{END, VOLUME}
use Rattle.store_model.specs.{StoreState.StoreState, StoreState.handoff_len, StateFacts.IsStoreState, HeapImage.heap_image}
use Rattle.store_model.specs.Service.Reading.{fv_bases}
use Rattle.store_laws.specs.Word.{short_in, word_in}

-- from the HOB at a place on, at most so many
abbrev pub volumes_told : ℕ → List ℕ → ℕ → List ℕ
volumes_told zero heap at = []
volumes_told (suc n) heap at =
    if short_in heap at == END then []
    else if short_in heap at == VOLUME then word_in heap (at + 8) ∷ volumes_told n heap (at + short_in heap (at + 2))
    else volumes_told n heap (at + short_in heap (at + 2))

abbrev pub VolumesAreTold : Type 0
VolumesAreTold = (s : StoreState) (fuel : ℕ) → IsStoreState s → length s.hobs < fuel
    → fv_bases s ≡ volumes_told fuel (heap_image s) handoff_len
