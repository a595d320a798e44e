-- The image of a state is as long as its heap.
-- Own.
use Rattle.std.specs.Prelude.{◌≡◌, length}
use Rattle.store_model.specs.{StoreState.StoreState, StateFacts.IsStoreState, HeapImage.heap_image}

abbrev pub ImagesFill : Type 0
ImagesFill = (s : StoreState) → IsStoreState s → length (heap_image s) ≡ s.len
