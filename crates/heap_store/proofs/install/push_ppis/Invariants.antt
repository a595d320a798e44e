use Rattle.store_model.specs.{StoreState.StoreState, Service.Install.with_ppi}
use Rattle.pei_heap.specs.Linked.{IsLinked}
use Rattle.heap_store.specs.Made.{CanMakePpis}
use Rattle.heap_store.proofs.OnWay.{IsOnWay}
use Rattle.heap_store.proofs.install.push_ppis.Given as goal

abbrev pub invariant-descs : goal.invariant-descs
invariant-descs l = (s : StoreState) → IsLinked l.heap l.fn.memory l.fn.heads s → CanMakePpis s l.list
    → IsOnWay l.heap l.memory l.heads s (with_ppi l.by) l.list l.d-index
