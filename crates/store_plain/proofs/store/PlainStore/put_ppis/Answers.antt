use Rattle.std.proofs.Common.{length}
use Rattle.store_plain.proofs.store.PlainStore.put_ppis.Goals as goal

pub add_pendings-requires-clause-nodes : goal.add_pendings-requires-clause-nodes
add_pendings-requires-clause-nodes c = c.add_ppis.ensures.nodes (length c.args.pairs.now) c.in_ok-reserve.ensures.nodes
