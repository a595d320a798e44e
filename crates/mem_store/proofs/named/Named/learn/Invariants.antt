use Rattle.std.proofs.Common.{◌≡◌, ◌-◌, length}
use Rattle.store_model.specs.StoreState.{StoreState}
use Rattle.heap_store.specs.HeapState as H
use Rattle.mem_store.specs.Nodes.{Begins, CanLearn, named_rows}
use Rattle.mem_store.proofs.named.Named.learn.Given as goal

-- what is known so far begins the nodes
abbrev pub invariant-ppis : goal.invariant-ppis
invariant-ppis l = record {
  known : (s : StoreState) → H.StandsFor l.behind s → CanLearn l.fn.self.nodes l.ppis s → Begins l.self.nodes (named_rows s);
  right : l.self.right ≡ l.fn.self.right;
}

abbrev pub decreases-ppis : goal.decreases-ppis
decreases-ppis l = length l.ppis - length l.self.nodes
