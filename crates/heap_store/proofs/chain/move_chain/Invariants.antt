use Rattle.std.proofs.Common.{◌≡◌, take, drop}
use Rattle.store_model.specs.{declared.store_handle.EntryList.EntryList, StoreState.Range, StoreState.StoreState}
use Rattle.store_laws.specs.Moving.{Done}
use Rattle.heap_store.specs.{Half.IsHalf, Half.with_links, Ready.IsReady}
use Rattle.heap_store.specs.Linked.{links_of, address, first_of}
use Rattle.heap_store.proofs.chain.move_chain.Given as goal

abbrev pub invariant-nodes : goal.invariant-nodes
invariant-nodes l = (s : StoreState) (to : Range) (done : Done) (list : EntryList) → IsReady s to l.course → IsHalf s to done l.fn.memory → l.head ≡ address to.base (first_of (links_of s list))
    → IsHalf s to (with_links done (take l._step (links_of s list))) l.memory × (l.at ≡ address to.base (first_of (drop l._step (links_of s list))))
