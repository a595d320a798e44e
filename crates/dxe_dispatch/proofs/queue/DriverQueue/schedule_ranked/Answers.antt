use Rattle.std.proofs.Common.{◌∙◌}
use Rattle.dxe_dispatch.specs.Choosing.{HasFlagFor}
use Rattle.dxe_dispatch.proofs.Scheduling.{ranked_left, ranked_on}
use Rattle.dxe_dispatch.proofs.queue.DriverQueue.schedule_ranked.Goals as goal

pub numbers-preserved : goal.numbers-preserved
numbers-preserved c = record {
  flags = c.in_ok-schedule.ensures.flags ∙ c.numbers.invariant.flags;
  left = ranked_left (HasFlagFor c.args.self.now) c.args.numbers.now c.numbers.number-index c.numbers-test.true c.numbers.invariant.left;
  on = ranked_on c.args.self.now c.numbers.self c.schedule.new.self c.args.numbers.now c.numbers.number-index c.numbers-test.true c.in_ok-schedule.ensures c.numbers.invariant.on;
}
