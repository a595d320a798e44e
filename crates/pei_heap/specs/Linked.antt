-- Memory that has the image of a state, with the addresses of the first and last nodes of its lists.
-- Own.
use Rattle.std.specs.Prelude.{◌≡◌, ℕ, length}
use Rattle.phys_mem.specs.declared.memory.PhysMem.{PhysMem}
use Rattle.store_model.specs.{declared.store_handle.EntryList.EntryList, StoreState.StoreState}
use Rattle.store_model.specs.declared.store_handle.EntryList.TheVariants.{Ppis, Callbacks, Dispatches, Pendings}
use Rattle.store_laws.specs.{Heads.last_address, Items.items, Items.first_address}
use Rattle.pei_heap.specs.{declared.heap.Heap.Heap, HeapMemory.IsHeapOf, declared.links.heads.Heads.Heads}

-- the first and the last node of a list, by their addresses, or 0
pub record AreEnds (s : StoreState) (list : EntryList) (head : ℕ) (tail : ℕ) : Type 0 where
  pub first : head ≡ first_address s.base (items s list)
  pub last : tail ≡ last_address s.base (items s list)

-- those of all four lists, and how many PPIs and callbacks there are
pub record AreHeads (s : StoreState) (heads : Heads) : Type 0 where
  pub ppi_ends : AreEnds s Ppis heads.ppi heads.ppi_tail
  pub note_ends : AreEnds s Callbacks heads.note heads.note_tail
  pub later_ends : AreEnds s Dispatches heads.later heads.later_tail
  pub queue_ends : AreEnds s Pendings heads.queue heads.queue_tail
  pub ppis_are : heads.ppis ≡ length s.ppis
  pub notes_are : heads.notes ≡ length s.callbacks

-- memory has the image of a state, and the heads are that state's
pub record IsLinked (heap : Heap) (memory : PhysMem) (heads : Heads) (s : StoreState) : Type 0 where
  pub heap_is : IsHeapOf heap memory s
  pub heads_are : AreHeads s heads
