use Rattle.store_laws.proofs.{Front.first_images, Linking.nodes_are_texts, Padding.hobs_are_added}
use Rattle.store_laws.proofs.heap.hob_laws.hobs_added.Goals as goal

pub returns : goal.returns
returns c = record { first = first_images; added = hobs_are_added; node = nodes_are_texts }
