use Rattle.dxe_dispatch.proofs.Standing.{seen_so}
use Rattle.dxe_dispatch.proofs.choose.choose.Goals as goal

pub next-requires-clause-seen : goal.next-requires-clause-seen
next-requires-clause-seen g c =
    let m = c.requires.state.0 in (m, seen_so c.args.catalog.now c.args.dxe.now c.args.queue.now m c.order.result.now c.order.ensures c.requires.state.1)

pub returns-clause-row : goal.returns-clause-row
returns-clause-row g c m are = c.next.ensures.row m (seen_so c.args.catalog.now c.args.dxe.now c.args.queue.now m c.order.result.now c.order.ensures are)
