use Rattle.std.proofs.Common.{◌≡◌, ℕ, ◌+◌, drop, length, fold}
use Rattle.store_model.specs.Service.Notify.{with_note}
use Rattle.store_plain.specs.{PlainState.state_of, Nodes.HasNodes, Nodes.HasEntries}
use Rattle.store_plain.proofs.store.PlainStore.add_notes.Given as goal

abbrev pub invariant-descs : goal.invariant-descs
invariant-descs l = record {
  state : fold (with_note l.by) (state_of l.self) (drop l.d-index l.list) ≡ fold (with_note l.by) (state_of l.fn.self) l.list;
  nodes : HasNodes l.self (length (drop l.d-index l.list));
  later : (n : ℕ) → HasNodes l.fn.self (length l.list + n) → HasNodes l.self (length (drop l.d-index l.list) + n);
  memory : HasEntries l.self (length (drop l.d-index l.list));
  pendings : l.self.pendings ≡ l.fn.self.pendings;
}
