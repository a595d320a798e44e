use Rattle.std.proofs.Common.{◌≡◌, ◌+◌, ◌≤◌, drop, length, fold, vec_len, vec_capacity}
use Rattle.store_model.specs.Service.Install.{with_pending}
use Rattle.store_plain.specs.{PlainState.state_of, Nodes.HasNodes}
use Rattle.store_plain.proofs.store.PlainStore.add_pendings.Given as goal

abbrev pub invariant-pairs : goal.invariant-pairs
invariant-pairs l = record {
  state : fold (with_pending l.by) (state_of l.self) (drop l.pair-index l.pairs) ≡ fold (with_pending l.by) (state_of l.fn.self) l.pairs;
  nodes : HasNodes l.self (length (drop l.pair-index l.pairs));
  memory : vec_len l.self.pendings + length (drop l.pair-index l.pairs) ≤ vec_capacity l.self.pendings;
}
