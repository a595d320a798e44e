use Rattle.std.proofs.Common.{refl}
use Rattle.dxe_dispatch.proofs.Filling.{at_end}
use Rattle.dxe_dispatch.proofs.queue.DriverQueue.is_empty.Goals as goal

pub returns : goal.returns
returns c = at_end c.args.self.now _ c.self.inside.items c.self.inside.head c.len.result c.self.view_is refl c.len.ensures c.self.invariant
