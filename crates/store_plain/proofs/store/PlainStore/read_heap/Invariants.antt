use Rattle.std.proofs.Common.{◌≡◌, take, length, map}
use Rattle.pi_base.specs.Lists.{numbers}
use Rattle.store_model.specs.MemoryReading.{heap_byte}
use Rattle.store_plain.specs.PlainState.{state_of}
use Rattle.store_plain.proofs.store.PlainStore.read_heap.Given as goal

abbrev pub invariant-bytes : goal.invariant-bytes
invariant-bytes l = record {
  len : length l.into ≡ length l.fn.into;
  read : take l.i l.into ≡ map (heap_byte (state_of l.self)) (numbers l.at l.i);
}
