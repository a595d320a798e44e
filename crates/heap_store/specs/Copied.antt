-- The bytes of the new heap before anything is moved: the HOB list of the old, and zeros.
-- Own.
use Rattle.std.specs.Prelude.{ℕ, List, ◌++◌}
use Rattle.phys_mem.specs.declared.memory.PhysMem.{PhysMem}
use Rattle.store_model.specs.StoreState.{Range, StoreState, handoff_len}
use Rattle.store_model.specs.Migration.{migrated_to}
use Rattle.store_laws.specs.{Growing.front_bytes, Spelling.spelled, Mapped.layout_of, Mapped.HasHeap, Moving.half}
use Rattle.heap_store.specs.Half.{behind, none_done}

unfoldable pub copied_image : StoreState → Range → List ℕ
copied_image s to = front_bytes s ++ spelled (half s to none_done) handoff_len s.hobs ++ behind s to

abbrev pub IsCopied : StoreState → Range → PhysMem → Type 0
IsCopied s to memory = HasHeap (layout_of (migrated_to s to)) (copied_image s to) memory
