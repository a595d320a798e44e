use Rattle.std.proofs.Common.{◌≡◌, ◌≤◌, ◌+◌, ◌*◌, length, drop}
use Rattle.store_model.specs.{declared.store_handle.EntryList.TheVariants.Ppis, StoreState.StoreState, StoreCall.AreDescs}
use Rattle.store_model.specs.{Service.Descriptor.descriptors, Service.Install.pairs_of}
use Rattle.store_model.specs.Service.Notify.{new_dispatches, notify_pairs}
use Rattle.pei_heap.specs.{Linked.IsLinked, Walk.StandsAt}
use Rattle.pei_heap.proofs.links.pairs.count_new_pairs.Given as goal

abbrev pub invariant-ppis : goal.invariant-ppis
invariant-ppis l = record {
  at : (s : StoreState) → IsLinked l.heap l.memory l.heads s → StandsAt s Ppis l._place l.at;
  left : (s : StoreState) → IsLinked l.heap l.memory l.heads s → AreDescs l.list s
      → l.count + length (pairs_of s (descriptors (drop l._place s.ppis)) (new_dispatches s l.list)) ≡ length (notify_pairs s l.list);
  few : l.count ≤ l._place * length l.list;
}
