use Rattle.std.proofs.Common.{◌≡◌, ◌+◌, ◌++◌, drop, take, length, sum_by}
use Rattle.store_model.specs.{StoreState.hob_len, StoreState.range_of, Migration.moved_hobs}
use Rattle.store_plain.specs.{PlainState.state_of, Moves.SameLists}
use Rattle.store_plain.proofs.store.PlainStore.move_hobs.Given as goal

abbrev pub invariant-hobs : goal.invariant-hobs
invariant-hobs l = record {
  len : length l.self.hobs.items ≡ length l.fn.self.hobs.items;
  at : l.at + sum_by hob_len (drop l.index l.self.hobs.items) ≡ l.self.end;
  moved : take l.index l.self.hobs.items ++ moved_hobs (state_of l.fn.self) (range_of l.to) l.at (drop l.index l.self.hobs.items) ≡ moved_hobs (state_of l.fn.self) (range_of l.to) 56 l.fn.self.hobs.items;
  rest : SameLists l.fn.self l.self;
}
