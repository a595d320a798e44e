use Rattle.choice_trials.proofs.SmallMachines.{new_drivers, seen_first}
use Rattle.choice_trials.proofs.drivers.prepare.Goals as goal

pub discover-requires-clause-new : goal.discover-requires-clause-new
discover-requires-clause-new c = new_drivers c.args.catalog.now c.requires.order.0 c.args.order.now c.args.queue.now c.volumes.result.now c.requires.order.1 c.requires.new c.volumes.ensures

pub install-requires-clause-seen : goal.install-requires-clause-seen
install-requires-clause-seen c =
    seen_first c.args.catalog.now c.requires.order.0 c.args.order.now c.args.queue.now c.discover.new.self c.requires.order.1 c.requires.new c.volumes.result.now c.volumes.ensures c.in_ok-discover.ensures.row
