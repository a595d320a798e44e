use Rattle.std.proofs.Common.{drop, refl, subst, sym}
use Rattle.dxe_dispatch.specs.Queue.{IsQueueFor, IsQueueOf, Queue}
use Rattle.dxe_dispatch.proofs.Scheduling.{request_row, still_made}
use Rattle.dxe_dispatch.proofs.queue.DriverQueue.request.Goals as goal

pub returns-clause-row : goal.returns-clause-row
returns-clause-row c catalog made m new q has =
    let inside = c.self.inside in
    let old : Queue = record { scheduled = drop inside.head inside.items; left = inside.head; waits = inside.waits; index = inside.index } in
    request_row catalog m new c.args.number old (record old { index = c.admit.new.index }) refl refl refl c.admit.ensures (subst (IsQueueOf catalog m) (sym c.self.view_is) q) has

pub returns-clause-made : goal.returns-clause-made
returns-clause-made c catalog made =
    let inside = c.self.inside in
    let old : Queue = record { scheduled = drop inside.head inside.items; left = inside.head; waits = inside.waits; index = inside.index } in
    let is : IsQueueFor catalog old = subst (IsQueueFor catalog) (sym c.self.view_is) made in
    still_made catalog old (record old { index = c.admit.new.index }) refl refl c.admit.ensures.phase (c.admit.ensures.kept catalog is.index) is
