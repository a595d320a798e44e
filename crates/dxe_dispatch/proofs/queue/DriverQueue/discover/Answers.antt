use Rattle.std.proofs.Common.{◌<◌, ◌∙◌, ap, length, subst, sym}
use Rattle.pi_base.specs.Lists.{Each}
use Rattle.boot_model.specs.DxeChoice.{a_priori_drivers}
use Rattle.wait_index.specs.Index.{order_in}
use Rattle.dxe_dispatch.specs.Queue.{Queue}
use Rattle.dxe_dispatch.proofs.Filling.{on_ok}
use Rattle.dxe_dispatch.proofs.Scheduling.{discovers_row, drivers_below, new_are, new_differ, ranked_drivers, still_for}
use Rattle.dxe_dispatch.proofs.queue.DriverQueue.discover.Goals as goal

pub come-requires-clause-known : goal.come-requires-clause-known
come-requires-clause-known c =
    let catalog = c.args.catalog.now in
    let at = ap length c.order.ensures ∙ ap (λ (q : Queue). length (order_in q.index)) c.self.view_is in
    let are = new_are catalog c.args.self.now c.args.order.now c.args.volumes.now (length c.order.result.now) c.drivers.result.now c.split_at.result.1.now c.requires.new c.drivers.ensures at c.split_at.ensures.back in
    subst (Each (λ n. n < length catalog.modules)) (sym are) (drivers_below catalog c.args.volumes.now)

pub returns-clause-row : goal.returns-clause-row
returns-clause-row c =
    let catalog = c.args.catalog.now in
    let queue = c.args.self.now in
    let volumes = c.args.volumes.now in
    let at = ap length c.order.ensures ∙ ap (λ (q : Queue). length (order_in q.index)) c.self.view_is in
    let are = new_are catalog queue c.args.order.now c.args.volumes.now (length c.order.result.now) c.drivers.result.now c.split_at.result.1.now c.requires.new c.drivers.ensures at c.split_at.ensures.back in
    let differ = new_differ catalog queue c.args.order.now c.args.volumes.now c.split_at.result.1.now c.requires.new are in
    on_ok c.schedule_a_priori.result
    (λ scheduled m new q has. discovers_row catalog m new volumes c.split_at.result.1.now queue c.come.new.self c.schedule_a_priori.new.self q c.come.ensures.come scheduled are differ has)
    c.schedule_a_priori.ensures

pub returns-clause-made : goal.returns-clause-made
returns-clause-made c =
    let catalog = c.args.catalog.now in
    let volumes = c.args.volumes.now in
    on_ok c.schedule_a_priori.result (still_for catalog c.come.new.self c.schedule_a_priori.new.self (a_priori_drivers catalog volumes) c.come.ensures.made (ranked_drivers catalog volumes)) c.schedule_a_priori.ensures
