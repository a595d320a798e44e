use Rattle.store_model.specs.{StoreState.StoreState, Service.Notify.with_note}
use Rattle.pei_heap.specs.Linked.{IsLinked}
use Rattle.heap_store.specs.Made.{CanMakeNotes}
use Rattle.heap_store.proofs.OnWay.{IsOnWay}
use Rattle.heap_store.proofs.notify.push_notes.Given as goal

abbrev pub invariant-descs : goal.invariant-descs
invariant-descs l = (s : StoreState) → IsLinked l.heap l.fn.memory l.fn.heads s → CanMakeNotes s l.list
    → IsOnWay l.heap l.memory l.heads s (with_note l.by) l.list l.d-index
