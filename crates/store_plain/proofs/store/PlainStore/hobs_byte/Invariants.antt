use Rattle.std.proofs.Common.{◌≡◌, ◌+◌, ◌-◌, ◌++◌, ◌≤◌, drop, sum_by}
use Rattle.store_model.specs.{StoreState.hob_len, HeapImage.hobs_bytes, HeapImage.header_bytes}
use Rattle.store_plain.specs.{PlainState.state_of, Peeking.byte_of}
use Rattle.store_plain.proofs.store.PlainStore.hobs_byte.Given as goal

abbrev pub invariant-hobs : goal.invariant-hobs
invariant-hobs l = record {
  at : l.at + sum_by hob_len (drop l.hob-index l.self.hobs.items) ≡ l.self.end;
  below : l.at ≤ l.place;
  byte : byte_of (hobs_bytes (state_of l.self) l.at (drop l.hob-index l.self.hobs.items) ++ header_bytes 0xffff 8) (l.place - l.at) ≡ byte_of (hobs_bytes (state_of l.self) 56 l.self.hobs.items ++ header_bytes 0xffff 8) (l.place - 56);
}
