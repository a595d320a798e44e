-- What is read from the header of a HOB.
-- Own.
use Rattle.std.specs.Prelude.{◌≡◌, ℕ, ◌+◌, ◌≤◌, ◌==◌, if◌then◌else◌, List, Option, Some, None}
use Rattle.hob_codec.specs.declared.kind.TheConstants.{END}
use Rattle.store_model.specs.{declared.store_handle.HobSpan.HobSpan, StoreState.StoreState, StoreState.header_len, StateFacts.IsStoreState}
use Rattle.store_model.specs.{StoreCall.IsHobPlace, HeapImage.heap_image, Service.Reading.hob_at}
use Rattle.store_laws.specs.Word.{short_in}

-- the HOB at a place, by its type and length; nothing at the end HOB
abbrev pub span_told : List ℕ → ℕ → Option HobSpan
span_told heap place =
    if short_in heap place == END then None
    else Some (record { kind = short_in heap place; length = short_in heap (place + 2); next = place + short_in heap (place + 2) })

abbrev pub HobsAreTold : Type 0
HobsAreTold = (s : StoreState) (place : ℕ) → IsStoreState s → IsHobPlace place s → hob_at s place ≡ span_told (heap_image s) place

-- its header is in the heap
abbrev pub HobPlacesAreInside : Type 0
HobPlacesAreInside = (s : StoreState) (place : ℕ) → IsStoreState s → IsHobPlace place s → place + header_len ≤ s.len
