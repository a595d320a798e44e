-- What memory reads if its heap is the image of a state.
-- Own.
use Rattle.std.specs.Prelude.{◌≡◌, ℕ}
use Rattle.phys_mem.specs.{Regions.regions, declared.memory.PhysMem.PhysMem}
use Rattle.phys_mem.specs.Regions as R
use Rattle.store_model.specs.{StoreState.StoreState, StateFacts.IsStoreState}
use Rattle.store_model.specs.MemoryReading as M
use Rattle.store_laws.specs.Mapped.{IsMemoryOf}

abbrev pub MemoryIsRead : Type 0
MemoryIsRead = (s : StoreState) (memory : PhysMem) (at n : ℕ) → IsStoreState s → IsMemoryOf s memory
    → R.bytes_at (regions memory) at n ≡ M.bytes_at s at n
