use Rattle.std.proofs.Common.{◌≡◌, ◌≤◌, ◌+◌, ◌*◌, length, drop}
use Rattle.store_model.specs.{StoreState.StoreState, StoreCall.AreDescs, Service.Descriptor.descriptors, Service.Descriptor.offsets}
use Rattle.store_model.specs.Service.Install.{install_pairs, pairs_of}
use Rattle.pei_heap.specs.Linked.{IsLinked}
use Rattle.pei_heap.proofs.links.pairs.count_pairs.Given as goal

abbrev pub invariant-descs : goal.invariant-descs
invariant-descs l = record {
  left : (s : StoreState) → IsLinked l.heap l.memory l.heads s → AreDescs l.list s
      → l.count + length (pairs_of s (offsets (drop l.d-index l.list)) (descriptors s.dispatches)) ≡ length (install_pairs s l.list);
  few : l.count ≤ l.d-index * l.heap.span.len;
}
