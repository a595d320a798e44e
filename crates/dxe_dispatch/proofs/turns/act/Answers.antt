use Rattle.std.proofs.Common.{ap, subst, sym, ◌∙◌, arith}
use Rattle.std.proofs.lemmas.Result.{err_from_is_err_and}
use Rattle.boot_model.specs.DxeStep.{dxe_step}
use Rattle.dxe_core.specs.Order.{Drivers, IsOrderOf}
use Rattle.dxe_dispatch.specs.Queue.{owed}
use Rattle.dxe_dispatch.proofs.Passing.{busy_starts_none}
use Rattle.dxe_dispatch.proofs.Turning.{event_owes, event_so, has_event, new_drivers, not_ok, owes_still, part_acted, told, whole_part, ends_so}
use Rattle.dxe_dispatch.proofs.turns.act.Goals as goal

pub step-requires-clause-made : goal.step-requires-clause-made
step-requires-clause-made g c = (c.requires.state.1, c.requires.state.2)

pub step-requires-clause-state : goal.step-requires-clause-state
step-requires-clause-state g c = (c.requires.state.0, c.requires.state.3.now.machine)

pub returns-in_err-event-clause-row : goal.returns-in_err-event-clause-row
returns-in_err-event-clause-row g c lets m fuel made ready =
    let p = err_from_is_err_and c.from_residual.result c.from_residual.ensures.1 in
    rw p.1 (part_acted lets c.args.catalog.now fuel m _ (λ idle. c.requires.busy (sym ready.now.machine.core.frames ∙ idle)) (c.in_err-event.ensures.row m fuel made ready.now.machine ready.waits))

pub discover-requires-clause-new : goal.discover-requires-clause-new
discover-requires-clause-new g c =
    let catalog = c.args.catalog.now in
    let m = c.requires.state.0 in
    let fuel = c.requires.state.1 in
    let made = c.requires.state.2 in
    let ready = c.requires.state.3 in
    let went = rw c.in-Went.is at (c.in_ok-event.ensures.row m fuel made ready.now.machine ready.waits) in
    let core = went.2.machine.core in
    let here = c.tell.ensures.row catalog c.requires.queue m (told m (dxe_step catalog fuel m)) ready.now.queue (has_event catalog fuel m c.in-Went.event c.step.new.self.services.handles went.1 core.services.handles) in
    let order = subst (IsOrderOf catalog _) (sym c.order-order.ensures) core.services.order in
    let new = c.newest.ensures m.discovered went.1.left.volumes (ap (λ (order : Drivers). order.volumes) c.order-order.ensures ∙ core.services.order.volumes_are ∙ went.1.left.discovered) went.1.left.count in
    new_drivers catalog fuel m c.in-Went.event c.tell.new.queue c.order-order.result.now c.newest.result.now went.1 order new here.index.order ready.once

pub returns-in_err-discover-in-Went-clause-row : goal.returns-in_err-discover-in-Went-clause-row
returns-in_err-discover-in-Went-clause-row g c lets m fuel made ready =
    let went = rw c.in-Went.is at (c.in_ok-event.ensures.row m fuel made ready.now.machine ready.waits) in
    let p = err_from_is_err_and c.from_residual-in_err-discover-in-Went.result c.from_residual-in_err-discover-in-Went.ensures.1 in
    rw p.1 (whole_part lets c.args.catalog.now m (dxe_step c.args.catalog.now fuel m) _ went.0 went.2.printed)

pub returns-in_ok-discover-in-Went-clause-row : goal.returns-in_ok-discover-in-Went-clause-row
returns-in_ok-discover-in-Went-clause-row g c lets m fuel made ready =
    let catalog = c.args.catalog.now in
    let went = rw c.in-Went.is at (c.in_ok-event.ensures.row m fuel made ready.now.machine ready.waits) in
    let core = went.2.machine.core in
    let here = c.tell.ensures.row catalog c.requires.queue m (told m (dxe_step catalog fuel m)) ready.now.queue (has_event catalog fuel m c.in-Went.event c.step.new.self.services.handles went.1 core.services.handles) in
    let new = c.newest.ensures m.discovered went.1.left.volumes (ap (λ (order : Drivers). order.volumes) c.order-order.ensures ∙ core.services.order.volumes_are ∙ went.1.left.discovered) went.1.left.count in
    let turned = event_so lets g.M.PeiStore.stands_for c.args.store.now catalog fuel c.step.new.self c.tell.new.queue c.discover.new.self m c.in-Went.event c.newest.result.now _ went.0 went.1 new went.2 here c.in_ok-discover-in-Went.ensures.row in
    (turned, (went.1, busy_starts_none catalog m went.0))

pub returns-in_ok-discover-in-Went-clause-owes : goal.returns-in_ok-discover-in-Went-clause-owes
returns-in_ok-discover-in-Went-clause-owes g c before m fuel made ready =
    let catalog = c.args.catalog.now in
    let went = rw c.in-Went.is at (c.in_ok-event.ensures.row m fuel made ready.now.machine ready.waits) in
    let core = went.2.machine.core in
    let new = c.newest.ensures m.discovered went.1.left.volumes (ap (λ (order : Drivers). order.volumes) c.order-order.ensures ∙ core.services.order.volumes_are ∙ went.1.left.discovered) went.1.left.count in
    event_owes catalog fuel m c.in-Went.event c.newest.result.now before (owed c.args.queue.now) (owed c.tell.new.queue) (owed c.discover.new.self) went.1
    new (c.tell.ensures.owes catalog c.requires.queue m ready.now.queue) c.in_ok-discover-in-Went.ensures.owes

pub unreachable-requires : goal.unreachable-requires
unreachable-requires g c =
    let m = c.requires.state.0 in
    let ready = c.requires.state.3 in
    let idle = rw c.in-Idle.is at (c.in_ok-event.ensures.row m c.requires.state.1 c.requires.state.2 ready.now.machine ready.waits) in
    c.requires.busy (sym ready.now.machine.core.frames ∙ idle.0)

pub returns-in-Ended-clause-row : goal.returns-in-Ended-clause-row
returns-in-Ended-clause-row g c lets m fuel made ready =
    let ended = rw c.in-Ended.is at (c.in_ok-event.ensures.row m fuel made ready.now.machine ready.waits) in
    ends_so lets g.M.PeiStore.stands_for c.args.store.now c.args.catalog.now fuel c.step.new.self c.args.queue.now m c.in-Ended.end _ (λ idle. c.requires.busy (sym ready.now.machine.core.frames ∙ idle)) ended ready.now.queue

pub returns-in-Ended-clause-owes : goal.returns-in-Ended-clause-owes
returns-in-Ended-clause-owes g c before m fuel made ready = owes_still c.args.catalog.now fuel m _ _ (omega arith)

pub returns-in_err-event-clause-made : goal.returns-in_err-event-clause-made
returns-in_err-event-clause-made g c = not_ok _ c.from_residual.result c.from_residual.ensures.0

pub returns-in_err-event-clause-queue : goal.returns-in_err-event-clause-queue
returns-in_err-event-clause-queue g c = not_ok _ c.from_residual.result c.from_residual.ensures.0

pub returns-in_err-event-clause-owes : goal.returns-in_err-event-clause-owes
returns-in_err-event-clause-owes g c = not_ok _ c.from_residual.result c.from_residual.ensures.0

pub returns-in_err-discover-in-Went-clause-made : goal.returns-in_err-discover-in-Went-clause-made
returns-in_err-discover-in-Went-clause-made g c = not_ok _ c.from_residual-in_err-discover-in-Went.result c.from_residual-in_err-discover-in-Went.ensures.0

pub returns-in_err-discover-in-Went-clause-queue : goal.returns-in_err-discover-in-Went-clause-queue
returns-in_err-discover-in-Went-clause-queue g c = not_ok _ c.from_residual-in_err-discover-in-Went.result c.from_residual-in_err-discover-in-Went.ensures.0

pub returns-in_err-discover-in-Went-clause-owes : goal.returns-in_err-discover-in-Went-clause-owes
returns-in_err-discover-in-Went-clause-owes g c = not_ok _ c.from_residual-in_err-discover-in-Went.result c.from_residual-in_err-discover-in-Went.ensures.0

pub returns-in_ok-discover-in-Went-clause-made : goal.returns-in_ok-discover-in-Went-clause-made
returns-in_ok-discover-in-Went-clause-made g c = c.in_ok-event.ensures.made

pub returns-in_ok-discover-in-Went-clause-queue : goal.returns-in_ok-discover-in-Went-clause-queue
returns-in_ok-discover-in-Went-clause-queue g c = c.in_ok-discover-in-Went.ensures.made

pub returns-in_ok-discover-in-Went-clause-faults : goal.returns-in_ok-discover-in-Went-clause-faults
returns-in_ok-discover-in-Went-clause-faults g c = c.in_ok-event.ensures.faults

pub returns-in-Ended-clause-made : goal.returns-in-Ended-clause-made
returns-in-Ended-clause-made g c = c.in_ok-event.ensures.made

pub returns-in-Ended-clause-queue : goal.returns-in-Ended-clause-queue
returns-in-Ended-clause-queue g c = c.requires.queue

pub returns-in-Ended-clause-faults : goal.returns-in-Ended-clause-faults
returns-in-Ended-clause-faults g c = c.in_ok-event.ensures.faults
