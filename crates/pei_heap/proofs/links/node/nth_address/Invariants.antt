use Rattle.std.proofs.Common.{◌≡◌, ◌-◌, ◌≤◌, drop}
use Rattle.store_model.specs.{StoreState.StoreState, declared.store_handle.EntryList.EntryList}
use Rattle.store_laws.specs.{Chain.IsHeaded, Items.items, Items.first_address}
use Rattle.pei_heap.proofs.links.node.nth_address.Given as goal

abbrev pub invariant-nodes : goal.invariant-nodes
invariant-nodes l = record {
  at : (s : StoreState) (list : EntryList) → IsHeaded s list l.heap l.base l.head → l.at ≡ first_address s.base (drop (l.place - l.left) (items s list));
  left : l.left ≤ l.place;
}

abbrev pub decreases-nodes : goal.decreases-nodes
decreases-nodes l = l.left
