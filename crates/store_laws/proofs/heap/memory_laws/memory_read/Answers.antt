use Rattle.store_laws.proofs.{Outside.roms_are_apart, Peeking.memory_is_read, Words.first_memories, Words.heaps_are_read}
use Rattle.store_laws.proofs.heap.memory_laws.memory_read.Goals as goal

pub returns : goal.returns
returns c = record { first = first_memories; heap = heaps_are_read; peek = memory_is_read; apart = roms_are_apart }
