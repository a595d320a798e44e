-- Texts that are written one after another.
-- Own.
use Rattle.std.specs.Prelude.{◌≡◌, ℕ, ◌+◌, ◌≤◌, List, ◌++◌, length, replicate, take, drop}
use Rattle.phys_mem.specs.Region.{replaced}
use Rattle.store_model.specs.StoreState.{StoreState, end_place, header_len}
use Rattle.store_model.specs.{StateFacts.IsStoreState, HeapImage.heap_image}

-- two texts, one after the other, are one
abbrev pub WritesAreJoined : Type 0
WritesAreJoined = (heap a b : List ℕ) (place : ℕ) → place + length a + length b ≤ length heap
    → replaced (replaced heap place a) (place + length a) b ≡ replaced heap place (a ++ b)

-- after the end HOB the heap is zero
abbrev pub TailsAreZero : Type 0
TailsAreZero = (s : StoreState) (place n : ℕ) → IsStoreState s → end_place s + header_len ≤ place → place + n ≤ s.len
    → take n (drop place (heap_image s)) ≡ replicate n 0
