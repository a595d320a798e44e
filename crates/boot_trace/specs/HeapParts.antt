-- Parts of the HOB list, by their addresses.
-- Own.
use Rattle.std.specs.Prelude.{ℕ, ◌+◌, ◌-◌, ◌≤◌, List, take, drop}
use Rattle.store_model.specs.{StoreState.StoreState, StoreState.end_place, HeapImage.hob_list}

-- the n bytes at an address stand in HOBs
abbrev pub IsHeapPart : ℕ → ℕ → StoreState → Type 0
IsHeapPart at n s = (s.base ≤ at) × (at + n ≤ s.base + end_place s)

abbrev pub heap_part : StoreState → ℕ → ℕ → List ℕ
heap_part s at n = take n (drop (at - s.base) (hob_list s))
