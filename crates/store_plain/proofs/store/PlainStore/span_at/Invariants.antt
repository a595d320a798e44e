use Rattle.std.proofs.Common.{◌≡◌, ◌+◌, drop, sum_by}
use Rattle.store_model.specs.{StoreState.hob_len, Service.Reading.span_from}
use Rattle.store_plain.proofs.store.PlainStore.span_at.Given as goal

abbrev pub invariant-hobs : goal.invariant-hobs
invariant-hobs l = record {
  at : l.at + sum_by hob_len (drop l.hob-index l.self.hobs.items) ≡ l.self.end;
  rest : span_from l.at (drop l.hob-index l.self.hobs.items) l.offset ≡ span_from 56 l.self.hobs.items l.offset;
}
