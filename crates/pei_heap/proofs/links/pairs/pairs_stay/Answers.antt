use Rattle.pei_heap.proofs.Queueing.{all_pairs_stay}
use Rattle.pei_heap.proofs.links.pairs.pairs_stay.Goals as goal

pub returns : goal.returns
returns c = all_pairs_stay
