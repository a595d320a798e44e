-- Where the heap of a state lay, and where it lies after the move. The page region stood behind it, and new and old lie apart.
-- Own.
use Rattle.std.specs.Prelude.{◌≡◌, ◌⊎◌, ◌+◌, ◌<◌, ◌≤◌}
use Rattle.store_model.specs.StoreState.{Range, StoreState}
use Rattle.heap_store.specs.declared.course.Course.{Course}

pub record IsCourse (s : StoreState) (to : Range) (course : Course) : Type 0 where
  pub from : course.from ≡ s.base
  pub len : course.len ≡ s.len
  pub pages : course.pages ≡ s.board.pages
  pub to_base : course.to ≡ to.base
  pub room : course.room ≡ to.len
  pub end : s.base + s.len + s.board.pages ≡ s.page_end
  pub fits : s.len + s.board.pages ≤ to.len
  pub apart : (to.base + to.len ≤ s.base) ⊎ (s.page_end ≤ to.base)
  pub above : 0 < s.base
  pub low : s.page_end ≤ 0x10000000000
  pub high : to.base + to.len ≤ 0x10000000000
