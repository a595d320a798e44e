use Rattle.std.proofs.Common.{◌≡◌, ◌≤◌, ◌+◌, length, drop}
use Rattle.store_model.specs.{StoreState.StoreState, StateFacts.IsDesc, StoreCall.AreDescs, Service.Notify.new_dispatches}
use Rattle.pei_heap.specs.HeapMemory.{IsHeapOf}
use Rattle.store_model.specs.Service.Install.{row_of}
use Rattle.pei_heap.proofs.links.pairs.count_new_row.Given as goal

abbrev pub invariant-descs : goal.invariant-descs
invariant-descs l = record {
  left : (s : StoreState) → IsHeapOf l.heap l.memory s → IsDesc s l.fn.ppi → AreDescs l.list s
      → l.count + length (row_of s l.fn.ppi.offset (new_dispatches s (drop l.d-index l.list))) ≡ length (row_of s l.fn.ppi.offset (new_dispatches s l.list));
  few : l.count ≤ l.d-index;
}
