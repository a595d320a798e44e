-- A store whose memory changed, and the state that it then stands for.
use Rattle.std.proofs.Common.{◌≡◌, ◌∙◌, ◌+◌, ℕ, List, false, Some, ap, refl, sym, subst}
use Rattle.pi_base.specs.declared.span.Span.{Span}
use Rattle.store_model.specs.StoreState.{Board, range_of, StoreState}
use Rattle.store_model.specs.{StateFacts.IsStoreState, declared.state.HobEntry.HobEntry}
use Rattle.phys_mem.specs.declared.memory.PhysMem.{PhysMem}
use Rattle.pei_heap.specs.{HeapMemory.IsHeapOf, declared.links.heads.Heads.Heads, Linked.AreHeads, Linked.IsLinked}
use Rattle.heap_store.specs.{declared.store.HeapStore.HeapStore, Made.IsSame, HeapState.StandsFor}

-- a state with other HOBs, pages and boot mode
abbrev pub with_heap : StoreState → List HobEntry → ℕ → ℕ → StoreState
with_heap s hobs taken mode = record s { hobs = hobs; taken = taken; boot_mode = mode }

-- has the same lists
pub heads_stay : (s : StoreState) (hobs : List HobEntry) (taken mode : ℕ) (heads : Heads) → AreHeads s heads → AreHeads (with_heap s hobs taken mode) heads
heads_stay s hobs taken mode heads h = record {
  ppi_ends = record { first = h.ppi_ends.first; last = h.ppi_ends.last };
  note_ends = record { first = h.note_ends.first; last = h.note_ends.last };
  later_ends = record { first = h.later_ends.first; last = h.later_ends.last };
  queue_ends = record { first = h.queue_ends.first; last = h.queue_ends.last };
  ppis_are = h.ppis_are;
  notes_are = h.notes_are;
}

pub stands_early : (m : HeapStore) (s : StoreState) (hobs : List HobEntry) (taken mode early : ℕ) (memory : PhysMem) → StandsFor m s
    → IsHeapOf m.heap memory (with_heap s hobs taken mode) → (s.moved ≡ false → early ≡ taken)
    → StandsFor (record m { memory = memory; early = early }) (with_heap s hobs taken mode)
stands_early m s hobs taken mode early memory h is e = record {
  linked = record { heap_is = is; heads_are = heads_stay s hobs taken mode m.heads h.linked.heads_are };
  board = record { temp = h.board.temp; ram = h.board.ram; pages = h.board.pages; pages_end = h.board.pages_end };
  planned = h.planned;
  moved = h.moved;
  early = e;
}

-- with as many early pages
pub stands_grown : (m : HeapStore) (s : StoreState) (hobs : List HobEntry) (taken mode : ℕ) (memory : PhysMem) → StandsFor m s
    → IsHeapOf m.heap memory (with_heap s hobs taken mode) → (s.moved ≡ false → s.taken ≡ taken)
    → StandsFor (record m { memory = memory }) (with_heap s hobs taken mode)
stands_grown m s hobs taken mode memory h is e = stands_early m s hobs taken mode m.early memory h is (λ before. h.early before ∙ e before)

-- memory that is the same
pub stands_same : (m : HeapStore) (s : StoreState) (memory : PhysMem) → StandsFor m s → memory ≡ m.memory → StandsFor (record m { memory = memory }) s
stands_same m s memory h e = subst (λ (x : PhysMem). StandsFor (record m { memory = x }) s) (sym e) h

-- other lists
pub stands_linked : (m : HeapStore) (s t : StoreState) (memory : PhysMem) (heads : Heads) → StandsFor m s → IsLinked m.heap memory heads t → IsSame s t
    → StandsFor (record m { memory = memory; heads = heads }) t
stands_linked m s t memory heads h linked same = record {
  linked = linked;
  board = record {
    temp = h.board.temp ∙ ap (λ (b : Board). b.temp) (sym same.board);
    ram = h.board.ram ∙ ap (λ (b : Board). b.ram) (sym same.board);
    pages = h.board.pages ∙ ap (λ (b : Board). b.pages) (sym same.board);
    pages_end = h.board.pages_end ∙ ap (λ (b : Board). b.temp.base + b.temp.len) (sym same.board);
  };
  planned = h.planned ∙ sym same.planned;
  moved = h.moved ∙ sym same.moved;
  early = λ before. h.early (sym same.moved ∙ before) ∙ sym same.taken;
}

-- another plan
pub stands_planned : (m : HeapStore) (s : StoreState) (to : Span) → StandsFor m s → IsStoreState (record s { planned = Some (range_of to) })
    → StandsFor (record m { planned = Some to }) (record s { planned = Some (range_of to) })
stands_planned m s to h facts =
    let heads = h.linked.heads_are in
    let is = h.linked.heap_is.image in record {
      linked = record {
        heap_is = record { state = facts; image = record { base = is.base; len = is.len; has = record { placed = is.has.placed; len = is.has.len; regions = is.has.regions } } };
        heads_are = record {
          ppi_ends = record { first = heads.ppi_ends.first; last = heads.ppi_ends.last };
          note_ends = record { first = heads.note_ends.first; last = heads.note_ends.last };
          later_ends = record { first = heads.later_ends.first; last = heads.later_ends.last };
          queue_ends = record { first = heads.queue_ends.first; last = heads.queue_ends.last };
          ppis_are = heads.ppis_are;
          notes_are = heads.notes_are;
        };
      };
      board = record { temp = h.board.temp; ram = h.board.ram; pages = h.board.pages; pages_end = h.board.pages_end };
      planned = refl;
      moved = h.moved;
      early = h.early;
    }
