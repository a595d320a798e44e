use Rattle.std.proofs.Common.{◌≡◌, ◌≤◌, ◌+◌, drop, length, filter}
use Rattle.store_model.specs.{StoreState.StoreState, StoreCall.AreDescs, Service.Descriptor.is_callback, Service.Descriptor.kind_at}
use Rattle.heap_store.specs.HeapState.{StandsFor}
use Rattle.heap_store.proofs.store.HeapStore.callbacks_in.Given as goal

abbrev pub invariant-descs : goal.invariant-descs
invariant-descs l = record {
  count : (s : StoreState) → StandsFor l.self s → AreDescs l.list s
      → l.count + length (filter (λ d. is_callback (kind_at s d.offset)) (drop l.d-index l.list)) ≡ length (filter (λ d. is_callback (kind_at s d.offset)) l.list);
  few : l.count ≤ l.d-index;
}
