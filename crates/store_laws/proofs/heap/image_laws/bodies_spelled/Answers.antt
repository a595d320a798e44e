use Rattle.store_laws.proofs.HeapBodies.{bodies_are_read, bodies_are_written, hobs_are_appended}
use Rattle.store_laws.proofs.heap.image_laws.bodies_spelled.Goals as goal

pub returns : goal.returns
returns c = record { read = bodies_are_read; written = bodies_are_written; appended = hobs_are_appended }
