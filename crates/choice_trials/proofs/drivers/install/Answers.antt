use Rattle.choice_trials.proofs.SmallMachines.{seen_changed}
use Rattle.choice_trials.proofs.drivers.install.Goals as goal

pub protocols-preserved : goal.protocols-preserved
protocols-preserved c = record {
  made = c.change.ensures.made c.args.catalog.now c.protocols.invariant.made;
  seen = seen_changed c.args.catalog.now c.protocols.queue c.change.new.self c.args.order.now _ c.protocols.invariant.seen (c.change.ensures.row c.args.catalog.now c.protocols.invariant.made);
}
