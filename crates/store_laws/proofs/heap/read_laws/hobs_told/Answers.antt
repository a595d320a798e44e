use Rattle.store_laws.proofs.{HeapHobs.hobs_are_told, HeapHobs.hob_places_are_inside, Volumes.volumes_are_told}
use Rattle.store_laws.proofs.heap.read_laws.hobs_told.Goals as goal

pub returns : goal.returns
returns c =
    let law = c.little_endian.ensures.read in
    record { header = hobs_are_told law; inside = hob_places_are_inside; volumes = volumes_are_told law }
