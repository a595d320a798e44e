use Rattle.store_model.specs.StoreState.{StoreState}
use Rattle.heap_store.specs.HeapState.{StandsFor}
use Rattle.heap_store.proofs.Walked.{IsWalked}
use Rattle.heap_store.proofs.store.HeapStore.volume_bases.Given as goal

abbrev pub invariant-hobs : goal.invariant-hobs
invariant-hobs l = (s : StoreState) → StandsFor l.self s → IsWalked s l.bases l.offset l._hob
