use Rattle.store_laws.proofs.{Popping.pairs_are_popped, Renaming.ppis_are_renamed, Pools.pools_are_written, BootMode.boot_modes_are_written}
use Rattle.store_laws.proofs.heap.change_laws.bodies_changed.Goals as goal

pub returns : goal.returns
returns c = record { popped = pairs_are_popped; renamed = ppis_are_renamed; pool = pools_are_written; boot_mode = boot_modes_are_written }
