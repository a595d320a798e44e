-- The states that a store in memory stands for: memory has the image of the state, and the store's fields say what the image does not.
-- Own.
use Rattle.std.specs.Prelude.{◌≡◌, ◌+◌, false, option_map}
use Rattle.store_model.specs.StoreState.{Board, StoreState, range_of}
use Rattle.pei_heap.specs.Linked.{IsLinked}
use Rattle.heap_store.specs.declared.store.HeapStore.{HeapStore}

-- temporary RAM, the page region at its end, and RAM; the volumes are those of the memory
pub record IsBoardOf (m : HeapStore) (board : Board) : Type 0 where
  pub temp : range_of m.temp ≡ board.temp
  pub ram : range_of m.ram ≡ board.ram
  pub pages : m.pages.len ≡ board.pages
  pub pages_end : m.pages.base + m.pages.len ≡ board.temp.base + board.temp.len

-- memory has the image of the state, and the heads are those of its lists; so many bytes of pages were taken before the move
pub record StandsFor (m : HeapStore) (s : StoreState) : Type 0 where
  pub linked : IsLinked m.heap m.memory m.heads s
  pub board : IsBoardOf m s.board
  pub planned : option_map range_of m.planned ≡ s.planned
  pub moved : m.moved ≡ s.moved
  pub early : s.moved ≡ false → m.early ≡ s.taken
