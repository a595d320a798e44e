use Rattle.std.proofs.Common.{length}
use Rattle.store_plain.proofs.store.PlainStore.put_notes.Goals as goal

pub add_pendings-requires-clause-nodes : goal.add_pendings-requires-clause-nodes
add_pendings-requires-clause-nodes c = c.add_notes.ensures.nodes (length c.args.pairs.now) c.in_ok-reserve.ensures.nodes
