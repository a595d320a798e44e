use Rattle.store_laws.proofs.Descriptors.{address_is, flags_are_read, guids_are_read, numbers_are_read}
use Rattle.store_laws.proofs.heap.read_laws.descriptors_read.Goals as goal

pub returns : goal.returns
returns c =
    let law = c.little_endian.ensures.read in
    record { flags = flags_are_read law; address = address_is law; guid = guids_are_read law; number = numbers_are_read law }
