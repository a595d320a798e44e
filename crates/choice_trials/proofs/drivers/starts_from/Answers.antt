use Rattle.std.proofs.Common.{subst}
use Rattle.dxe_dispatch.specs.Queue.{ComesNext}
use Rattle.choice_trials.proofs.SmallMachines.{seen_on}
use Rattle.choice_trials.proofs.drivers.starts_from.Goals as goal

pub starts-preserved : goal.starts-preserved
starts-preserved g c = record {
  made = c.in_ok-next.ensures.made;
  seen = seen_on c.args.catalog.now c.starts.queue c.next.new.self c.args.order.now c.in-Some.next c.starts.invariant.seen
      (λ m seen. subst (λ found. ComesNext c.args.catalog.now m found c.next.new.self) c.in-Some.is (c.in_ok-next.ensures.row m seen));
}
