use Rattle.std.proofs.Common.{drop}
use Rattle.store_model.specs.{declared.store_handle.EntryList.TheVariants.Dispatches, StoreState.StoreState, Service.Descriptor.descriptors}
use Rattle.pei_heap.specs.{Linked.IsLinked, Pairs.CanQueueRow, Walk.StandsAt}
use Rattle.store_model.specs.Service.Install.{row_of}
use Rattle.pei_heap.proofs.Queueing.{IsLeft}
use Rattle.pei_heap.proofs.links.pairs.push_row.Given as goal

abbrev pub invariant-notes : goal.invariant-notes
invariant-notes l = record {
  at : (s : StoreState) → IsLinked l.fn.heap l.fn.memory l.fn.heads s → CanQueueRow s l.ppi (descriptors s.dispatches) → StandsAt s Dispatches l._place l.at;
  left : (s : StoreState) → IsLinked l.fn.heap l.fn.memory l.fn.heads s → CanQueueRow s l.ppi (descriptors s.dispatches)
      → IsLeft l.heap l.memory l.heads s l.by (row_of s l.ppi.offset (descriptors s.dispatches)) (row_of s l.ppi.offset (descriptors (drop l._place s.dispatches)));
}
