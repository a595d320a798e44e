use Rattle.std.proofs.Common.{drop, refl, subst, sym}
use Rattle.dxe_dispatch.specs.Queue.{IsQueueFor, IsQueueOf, Queue}
use Rattle.dxe_dispatch.proofs.Scheduling.{change_row, changed_owes, still_made}
use Rattle.dxe_dispatch.proofs.queue.DriverQueue.change.Goals as goal

pub returns-clause-row : goal.returns-clause-row
returns-clause-row c catalog made m new q has =
    let inside = c.self.inside in
    let old : Queue = record { scheduled = drop inside.head inside.items; left = inside.head; waits = inside.waits; index = inside.index } in
    let is : IsQueueFor catalog old = subst (IsQueueFor catalog) (sym c.self.view_is) made in
    change_row catalog m new c.args.guid.now c.args.there old (record old { index = c.changed.new.self }) refl refl refl (c.changed.ensures.set catalog is.index) (subst (IsQueueOf catalog m) (sym c.self.view_is) q) has

pub returns-clause-made : goal.returns-clause-made
returns-clause-made c catalog made =
    let inside = c.self.inside in
    let old : Queue = record { scheduled = drop inside.head inside.items; left = inside.head; waits = inside.waits; index = inside.index } in
    let is : IsQueueFor catalog old = subst (IsQueueFor catalog) (sym c.self.view_is) made in
    still_made catalog old (record old { index = c.changed.new.self }) refl refl (c.changed.ensures.set catalog is.index).phase (c.changed.ensures.index catalog is.index) is

pub returns-clause-owes : goal.returns-clause-owes
returns-clause-owes c catalog made m q =
    let inside = c.self.inside in
    let old : Queue = record { scheduled = drop inside.head inside.items; left = inside.head; waits = inside.waits; index = inside.index } in
    let is : IsQueueFor catalog old = subst (IsQueueFor catalog) (sym c.self.view_is) made in
    let here : IsQueueOf catalog m old = subst (IsQueueOf catalog m) (sym c.self.view_is) q in
    changed_owes catalog m c.args.guid.now c.args.self.now old (record old { index = c.changed.new.self }) c.self.view_is (c.changed.ensures.owed catalog is.index) (c.asked_are_those_of_the_bound_in_dxe.ensures catalog m old.index here.index c.args.guid.now)
