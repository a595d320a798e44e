use Rattle.store_laws.proofs.Front.{boot_modes_are_read, free_tops_are_read, free_bottoms_are_read, ends_are_read, free_is_read}
use Rattle.store_laws.proofs.heap.read_laws.handoff_read.Goals as goal

pub returns : goal.returns
returns c =
    let law = c.little_endian.ensures.read in
    record { boot_mode = boot_modes_are_read law; free_top = free_tops_are_read law; free_bottom = free_bottoms_are_read law; end = ends_are_read law; free = free_is_read law }
