use Rattle.store_laws.proofs.HobWalk.{walks_give_hobs}
use Rattle.store_laws.proofs.heap.walk_laws.walks_give_hobs.Goals as goal

pub returns : goal.returns
returns c = walks_give_hobs c.little_endian.ensures.read c.one_walk.ensures.lists
