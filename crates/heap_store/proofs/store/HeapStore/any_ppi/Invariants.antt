use Rattle.std.proofs.Common.{◌≡◌, drop}
use Rattle.std.specs.List.{list_any}
use Rattle.store_model.specs.{StoreState.StoreState, StoreCall.AreDescs, Service.Descriptor.is_ppi, Service.Descriptor.kind_at}
use Rattle.heap_store.specs.HeapState.{StandsFor}
use Rattle.heap_store.proofs.store.HeapStore.any_ppi.Given as goal

abbrev pub invariant-descs : goal.invariant-descs
invariant-descs l = (s : StoreState) → StandsFor l.self s → AreDescs l.list s
    → list_any (λ d. is_ppi (kind_at s d.offset)) (drop l.d-index l.list) ≡ list_any (λ d. is_ppi (kind_at s d.offset)) l.list
