use Rattle.std.proofs.Common.{◌<◌, length, length-set, ◌∙◌, arith}
use Rattle.store_model.specs.MemoryReading.{heap_byte}
use Rattle.store_plain.specs.PlainState.{state_of}
use Rattle.store_plain.proofs.Heap.{read_more}
use Rattle.store_plain.proofs.store.PlainStore.read_heap.Goals as goal

pub bytes-preserved : goal.bytes-preserved
bytes-preserved c =
    let i = c.bytes.i in
    let below : i < length c.bytes.into = omega (arith, c.bytes-test.true, c.bytes.invariant.len) in
    record {
      len = length-set c.bytes.into i c.heap_byte.result ∙ c.bytes.invariant.len;
      read = read_more (heap_byte (state_of c.args.self.now)) c.bytes.into c.args.at i c.heap_byte.result below c.bytes.invariant.read c.heap_byte.ensures;
    }
