-- How many HOBs a store has at most, and how high its heap ends.
use Rattle.std.proofs.Common.{◌+◌, ◌≤◌, ◌<◌, Bool, true, false, length, arith, subst, Option, IfSome}
use Rattle.store_model.specs.StoreState.{StoreState, Range, end_place}
use Rattle.store_model.specs.StateFacts.{IsStoreState, IsBoard, IsHeap, IsPlanned}
use Rattle.boot_trace.specs.HobLines.{all_hobs}
use Rattle.boot_trace.proofs.HobPlaces.{end_is}
use Rattle.store_laws.proofs.Fits.{hobs_len}

-- the heap is no longer than RAM may be
heap_len : (s : StoreState) (moved : Bool) → IsHeap s moved → IfSome s.planned (IsPlanned s.board) → IsBoard s.board → s.len ≤ 0x10000000
heap_len s false h p b = omega (arith, h.1, b.temp_len)
heap_len s true h p b =
    let P : Option Range → Type 0 = λ planned. IfSome planned (IsPlanned s.board) in
    let q : IsPlanned s.board (record { base = s.base; len = s.len }) = subst P h.0 p in
    omega (arith, q.0, q.1, b.ram_len)

pub small_heap : (s : StoreState) → IsStoreState s → end_place s + 8 ≤ 0x10000000
small_heap s h = let len = heap_len s s.moved h.heap h.planned h.board in omega (arith, len, h.room)

pub few_hobs : (s : StoreState) → IsStoreState s → length (all_hobs s) < 0x10000000
few_hobs s h = omega (arith, hobs_len (all_hobs s), end_is s, small_heap s h)

-- addresses of the heap fit into 64 bits
heap_end : (s : StoreState) (moved : Bool) → IsHeap s moved → IfSome s.planned (IsPlanned s.board) → IsBoard s.board → s.base + s.len ≤ 0x10000000000
heap_end s false h p b = omega (arith, h.0, h.1, b.temp_end)
heap_end s true h p b =
    let P : Option Range → Type 0 = λ planned. IfSome planned (IsPlanned s.board) in
    let q : IsPlanned s.board (record { base = s.base; len = s.len }) = subst P h.0 p in
    omega (arith, q.1, b.ram_end)

pub low_heap : (s : StoreState) → IsStoreState s → s.base + end_place s + 8 ≤ 0x10000000000
low_heap s h = let end = heap_end s s.moved h.heap h.planned h.board in omega (arith, end, h.room)
