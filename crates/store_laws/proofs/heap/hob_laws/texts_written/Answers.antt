use Rattle.store_laws.proofs.{Skipping.writes_are_joined, Padding.tails_are_zero}
use Rattle.store_laws.proofs.heap.hob_laws.texts_written.Goals as goal

pub returns : goal.returns
returns c = record { joined = writes_are_joined; tail = tails_are_zero }
