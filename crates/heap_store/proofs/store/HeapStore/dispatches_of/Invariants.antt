use Rattle.store_model.specs.StoreState.{StoreState}
use Rattle.heap_store.specs.HeapState.{StandsFor}
use Rattle.heap_store.proofs.Counted.{IsCounted}
use Rattle.heap_store.proofs.store.HeapStore.dispatches_of.Given as goal

abbrev pub invariant-notes : goal.invariant-notes
invariant-notes l = (s : StoreState) → StandsFor l.self s → IsCounted s l.guid l.count l.node l._note
