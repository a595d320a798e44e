use Rattle.store_laws.proofs.Facts.{images_fill}
use Rattle.store_laws.proofs.heap.image_laws.image_facts.Goals as goal

pub returns : goal.returns
returns c = images_fill
