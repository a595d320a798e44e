use Rattle.std.proofs.Common.{ap, sym}
use Rattle.dxe_dispatch.specs.PassList.{PassList}
use Rattle.dxe_dispatch.proofs.PassLists.{at_end}
use Rattle.dxe_dispatch.proofs.passes.PassQueue.is_empty.Goals as goal

pub returns : goal.returns
returns c = at_end c.args.self.now.left c.self.inside.items c.self.inside.head c.len.result (ap (λ (kept : PassList). kept.left) (sym c.self.view_is)) c.len.ensures c.self.invariant
