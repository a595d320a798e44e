-- The move of a store.
use Rattle.std.proofs.Common.{◌≡◌, ◌∙◌, ℕ, Bool, true, false, cond, Some, None, ap, refl, sym, true≢false, ◌&&◌, is_some, not, option_map}
use Rattle.phys_mem.specs.declared.memory.PhysMem.{PhysMem}
use Rattle.pi_base.specs.declared.span.Span.{Span}
use Rattle.store_model.specs.{StoreState.StoreState, StoreState.range_of, StoreCall.IsDue, StoreCall.Migrates}
use Rattle.store_model.specs.Migration.{migrated_to, migration}
use Rattle.pei_heap.specs.{declared.heap.Heap.Heap, declared.links.heads.Heads.Heads, Linked.IsLinked}
use Rattle.heap_store.specs.Due as D
use Rattle.heap_store.specs.{declared.store.HeapStore.HeapStore, HeapState.StandsFor}

due_by : (planned moved : Bool) → (planned && not moved) ≡ true → (planned ≡ true) × (moved ≡ false)
due_by true true e = absurd (true≢false (sym e))
due_by true false e = (refl, refl)
due_by false moved e = absurd (true≢false (sym e))

-- where none is planned, no move is due
pub none_due : (m : HeapStore) (s : StoreState) → StandsFor m s → IsDue s → m.planned ≡ None → ⊥
none_due m s h due none =
    let both = due_by (is_some s.planned) s.moved due in
    let empty : s.planned ≡ None = sym h.planned ∙ ap (option_map range_of) none in
    true≢false (sym both.0 ∙ ap is_some empty)

pub due_is : (m : HeapStore) (s : StoreState) (to : Span) → StandsFor m s → IsDue s → m.planned ≡ Some to → D.IsDue s m.pages m.early to
due_is m s to h due some =
    let both = due_by (is_some s.planned) s.moved due in
    record { still = both.1; planned = sym h.planned ∙ ap (option_map range_of) some; pages_are = h.board.pages; early_is = h.early both.1 }

pub stands_moved : (m : HeapStore) (s : StoreState) (to : Span) (memory : PhysMem) (heap : Heap) (heads : Heads) (base : ℕ) → StandsFor m s → IsDue s → m.planned ≡ Some to → base ≡ s.base
    → IsLinked heap memory heads (migrated_to s (range_of to))
    → (t : StoreState) × Migrates s (base, to.base) t × StandsFor (record m { memory = memory; heap = heap; heads = heads; moved = true }) t
stands_moved m s to memory heap heads base h due some e linked =
    let is = due_is m s to h due some in
    let t = migrated_to s (range_of to) in
    let moved : migration s ≡ Some t = ap (λ b. cond b None (option_map (migrated_to s) s.planned)) is.still ∙ ap (option_map (migrated_to s)) is.planned in (
      t,
      (moved, ap (λ n. (n, to.base)) e),
      record {
        linked = linked;
        board = record { temp = h.board.temp; ram = h.board.ram; pages = h.board.pages; pages_end = h.board.pages_end };
        planned = h.planned;
        moved = refl;
        early = λ before. absurd (true≢false before);
      },
    )
