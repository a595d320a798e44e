use Rattle.std.proofs.Common.{◌≡◌, ◌++◌, drop}
use Rattle.store_model.specs.{StoreState.StoreState, StoreCall.AreDescs}
use Rattle.mem_store.specs.Rows.{row_at}
use Rattle.heap_store.specs.HeapState as H
use Rattle.mem_store.proofs.Listed.{picked, test_of}
use Rattle.mem_store.proofs.index.put_rows.Given as goal

abbrev pub invariant-descs : goal.invariant-descs
invariant-descs l = (s : StoreState) → H.StandsFor l.behind s → AreDescs l.list s
    → l.rows ++ picked (row_at s) (test_of l.which s) (drop l.d-index l.list) ≡ l.fn.rows ++ picked (row_at s) (test_of l.which s) l.list
