use Rattle.std.proofs.Common.{◌≡◌, Some, length, sym}
use Rattle.phys_mem.specs.Regions.{bytes_at, regions}
use Rattle.pei_heap.proofs.Volumes.{read_long}
use Rattle.heap_store.proofs.store.HeapStore.read_bytes.Goals as goal

pub copy_to-requires : goal.copy_to-requires
copy_to-requires c =
    let n = length c.args.into.now in
    let told : Some c.in-Some.bytes ≡ bytes_at (regions c.args.self.now.memory) c.args.at n = c.in-Some.ensures in
    sym (read_long (regions c.args.self.now.memory) c.args.at n c.in-Some.bytes (sym told))
