use Rattle.pei_heap.proofs.Knowing.{links_are_had}
use Rattle.pei_heap.proofs.links.has.links_told.Goals as goal

pub returns : goal.returns
returns c = links_are_had c.memory_read.ensures.heap c.lists_told.ensures.has
