use Rattle.std.proofs.Common.{drop}
use Rattle.store_model.specs.{StoreState.StoreState, Service.Notify.new_dispatches, Service.Install.row_of}
use Rattle.pei_heap.specs.{Linked.IsLinked, Pairs.CanQueueNewRow}
use Rattle.pei_heap.proofs.Queueing.{IsLeft}
use Rattle.pei_heap.proofs.links.pairs.push_new_row.Given as goal

abbrev pub invariant-descs : goal.invariant-descs
invariant-descs l = record {
  left : (s : StoreState) → IsLinked l.fn.heap l.fn.memory l.fn.heads s → CanQueueNewRow s l.ppi l.list
      → IsLeft l.heap l.memory l.heads s l.by (row_of s l.ppi.offset (new_dispatches s l.list)) (row_of s l.ppi.offset (new_dispatches s (drop l.d-index l.list)));
}
