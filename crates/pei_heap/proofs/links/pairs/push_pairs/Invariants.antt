use Rattle.std.proofs.Common.{drop}
use Rattle.store_model.specs.{StoreState.StoreState, Service.Descriptor.descriptors, Service.Descriptor.offsets}
use Rattle.store_model.specs.Service.Install.{install_pairs, pairs_of}
use Rattle.pei_heap.specs.{Linked.IsLinked, Pairs.CanQueueAll}
use Rattle.pei_heap.proofs.Queueing.{IsLeft}
use Rattle.pei_heap.proofs.links.pairs.push_pairs.Given as goal

abbrev pub invariant-descs : goal.invariant-descs
invariant-descs l = record {
  left : (s : StoreState) → IsLinked l.fn.heap l.fn.memory l.fn.heads s → CanQueueAll s l.list l.count
      → IsLeft l.heap l.memory l.heads s l.by (install_pairs s l.list) (pairs_of s (offsets (drop l.d-index l.list)) (descriptors s.dispatches));
}
