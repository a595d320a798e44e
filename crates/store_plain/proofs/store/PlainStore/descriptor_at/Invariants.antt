use Rattle.std.proofs.Common.{◌≡◌, ◌+◌, drop, sum_by}
use Rattle.store_model.specs.StoreState.{hob_len, body_from}
use Rattle.store_plain.proofs.store.PlainStore.descriptor_at.Given as goal

abbrev pub invariant-hobs : goal.invariant-hobs
invariant-hobs l = record {
  at : l.at + sum_by hob_len (drop l.hob-index l.self.hobs.items) ≡ l.self.end;
  rest : body_from l.at (drop l.hob-index l.self.hobs.items) l.place ≡ body_from 56 l.self.hobs.items l.place;
}
