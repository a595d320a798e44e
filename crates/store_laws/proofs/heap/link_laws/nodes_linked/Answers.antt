use Rattle.store_laws.proofs.Linking.{ppis_are_linked, callbacks_are_linked, dispatches_are_linked, pairs_are_linked}
use Rattle.store_laws.proofs.heap.link_laws.nodes_linked.Goals as goal

pub returns : goal.returns
returns c = record { ppi = ppis_are_linked; callback = callbacks_are_linked; dispatch = dispatches_are_linked; pair = pairs_are_linked }
