use Rattle.std.proofs.Common.{drop}
use Rattle.store_model.specs.{declared.store_handle.EntryList.TheVariants.Ppis, StoreState.StoreState, Service.Descriptor.descriptors}
use Rattle.store_model.specs.{Service.Install.pairs_of, Service.Notify.new_dispatches, Service.Notify.notify_pairs}
use Rattle.pei_heap.specs.{Linked.IsLinked, Pairs.CanQueueNew, Walk.StandsAt}
use Rattle.pei_heap.proofs.Queueing.{IsLeft}
use Rattle.pei_heap.proofs.links.pairs.push_new_pairs.Given as goal

abbrev pub invariant-ppis : goal.invariant-ppis
invariant-ppis l = record {
  at : (s : StoreState) → IsLinked l.fn.heap l.fn.memory l.fn.heads s → CanQueueNew s l.list l.count → StandsAt s Ppis l._place l.at;
  left : (s : StoreState) → IsLinked l.fn.heap l.fn.memory l.fn.heads s → CanQueueNew s l.list l.count
      → IsLeft l.heap l.memory l.heads s l.by (notify_pairs s l.list) (pairs_of s (descriptors (drop l._place s.ppis)) (new_dispatches s l.list));
}
