use Rattle.store_laws.proofs.Moving.{nodes_are_moved, descriptors_are_moved, pages_are_moved, heaps_are_moved}
use Rattle.store_laws.proofs.Shifts.{shifts_are_once}
use Rattle.store_laws.proofs.heap.move_laws.heap_shifted.Goals as goal

pub returns : goal.returns
returns c = record { node = nodes_are_moved; descriptor = descriptors_are_moved; pages = pages_are_moved; moved = heaps_are_moved; once = shifts_are_once }
