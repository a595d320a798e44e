use Rattle.std.proofs.Common.{◌+◌, ◌≤◌, ap, drop, refl, subst, sym}
use Rattle.dxe_dispatch.specs.Queue.{IsQueueFor, IsQueueOf, Queue, owed}
use Rattle.dxe_dispatch.proofs.{Machines.stands_settled, Scheduling.still_made}
use Rattle.dxe_dispatch.proofs.queue.DriverQueue.first_eligible.Goals as goal

pub returns-clause-first : goal.returns-clause-first
returns-clause-first g c m q = let here = subst (IsQueueOf c.args.catalog.now m) (sym c.self.view_is) q in c.first_that_may_start.ensures.first m here.index

pub returns-clause-queue : goal.returns-clause-queue
returns-clause-queue g c m q =
    let here = subst (IsQueueOf c.args.catalog.now m) (sym c.self.view_is) q in
    record {
      scheduled = here.scheduled;
      left = here.left;
      waits = here.waits;
      index = stands_settled c.args.catalog.now m c.self.inside.index c.first_that_may_start.new.index here.index c.first_that_may_start.ensures.same;
      others = here.others;
    }

pub returns-clause-made : goal.returns-clause-made
returns-clause-made g c =
    let inside = c.self.inside in
    let old : Queue = record { scheduled = drop inside.head inside.items; left = inside.head; waits = inside.waits; index = inside.index } in
    still_made c.args.catalog.now old (record old { index = c.first_that_may_start.new.index }) refl refl c.first_that_may_start.ensures.same.phase c.first_that_may_start.ensures.index
    (subst (IsQueueFor c.args.catalog.now) (sym c.self.view_is) c.requires.made)

pub returns-clause-same : goal.returns-clause-same
returns-clause-same g c = ap (λ (queue : Queue). queue.scheduled) c.self.view_is

pub returns-clause-left : goal.returns-clause-left
returns-clause-left g c = ap (λ (queue : Queue). queue.left) c.self.view_is

pub returns-clause-owes : goal.returns-clause-owes
returns-clause-owes g c =
    subst (λ (queue : Queue). c.first_that_may_start.new.steps + owed (record queue { index = c.first_that_may_start.new.index }) ≤ c.args.steps.now + owed queue) c.self.view_is c.first_that_may_start.ensures.few_steps
