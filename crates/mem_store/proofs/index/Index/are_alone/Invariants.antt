use Rattle.std.proofs.Common.{◌≡◌, drop}
use Rattle.store_model.specs.{StoreState.StoreState, StoreCall.AreDescs}
use Rattle.heap_store.specs.HeapState as H
use Rattle.mem_store.specs.Indexed.{all_rows, held}
use Rattle.mem_store.proofs.Alone.{pairs_in}
use Rattle.mem_store.proofs.index.Index.are_alone.Given as goal

abbrev pub invariant-descs : goal.invariant-descs
invariant-descs l = (s : StoreState) → H.StandsFor l.behind s → AreDescs l.list s → held l.self ≡ all_rows s
    → pairs_in s (drop l.d-index l.list) ≡ pairs_in s l.list
