use Rattle.std.proofs.Common.{◌≡◌, ◌+◌, drop, take, sum_by}
use Rattle.store_model.specs.StoreState.{hob_len, body_from}
use Rattle.store_plain.proofs.store.PlainStore.index_of.Given as goal

abbrev pub invariant-hobs : goal.invariant-hobs
invariant-hobs l = record {
  at : l.at ≡ 56 + sum_by hob_len (take l.i l.self.hobs.items);
  left : l.at + sum_by hob_len (drop l.i l.self.hobs.items) ≡ l.self.end;
  rest : body_from l.at (drop l.i l.self.hobs.items) l.place ≡ body_from 56 l.self.hobs.items l.place;
}
