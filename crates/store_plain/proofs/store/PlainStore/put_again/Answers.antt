use Rattle.std.proofs.Common.{◌≡◌, ◌+◌, length, arith, subst}
use Rattle.store_plain.specs.Nodes.{HasNodes}
use Rattle.store_plain.proofs.store.PlainStore.put_again.Goals as goal

pub add_pendings-requires-clause-nodes : goal.add_pendings-requires-clause-nodes
add_pendings-requires-clause-nodes c =
    let same : 0 + length c.args.pairs.now ≡ length c.args.pairs.now = omega arith in
    c.rename.ensures.nodes (length c.args.pairs.now) (subst (λ n. HasNodes c.reserve.new.self n) same c.in_ok-reserve.ensures.nodes)
