use Rattle.std.proofs.Common.{◌≡◌, drop}
use Rattle.store_model.specs.{StoreState.StoreState, StoreCall.AreDescs, Service.Notify.new_dispatches}
use Rattle.heap_store.specs.HeapState as H
use Rattle.mem_store.proofs.pairs.are_callbacks.Given as goal

abbrev pub invariant-descs : goal.invariant-descs
invariant-descs l = (s : StoreState) → H.StandsFor l.behind s → AreDescs l.list s → new_dispatches s (drop l.d-index l.list) ≡ new_dispatches s l.list
