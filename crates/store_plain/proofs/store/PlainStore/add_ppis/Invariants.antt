use Rattle.std.proofs.Common.{◌≡◌, ℕ, ◌+◌, ◌≤◌, drop, length, fold, vec_len, vec_capacity}
use Rattle.store_model.specs.Service.Install.{with_ppi}
use Rattle.store_plain.specs.{PlainState.state_of, Nodes.HasNodes}
use Rattle.store_plain.proofs.store.PlainStore.add_ppis.Given as goal

abbrev pub invariant-descs : goal.invariant-descs
invariant-descs l = record {
  state : fold (with_ppi l.by) (state_of l.self) (drop l.d-index l.list) ≡ fold (with_ppi l.by) (state_of l.fn.self) l.list;
  nodes : HasNodes l.self (length (drop l.d-index l.list));
  later : (n : ℕ) → HasNodes l.fn.self (length l.list + n) → HasNodes l.self (length (drop l.d-index l.list) + n);
  memory : vec_len l.self.ppis + length (drop l.d-index l.list) ≤ vec_capacity l.self.ppis;
  pendings : l.self.pendings ≡ l.fn.self.pendings;
}
