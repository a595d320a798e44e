use Rattle.std.proofs.Common.{◌≡◌, drop, length, map}
use Rattle.pi_base.specs.Lists.{Each}
use Rattle.dxe_dispatch.specs.Choosing.{HasFlagFor, Schedules, as_apriori}
use Rattle.dxe_dispatch.specs.Queue.{Queue}
use Rattle.dxe_dispatch.proofs.queue.DriverQueue.schedule_ranked.Given as goal

-- those that are left complete what is scheduled
abbrev pub invariant-numbers : goal.invariant-numbers
invariant-numbers l = record {
  flags : length l.self.waits ≡ length l.fn.self.waits;
  left : Each (HasFlagFor l.fn.self) (drop l.number-index l.numbers);
  on : (later : Queue) → Schedules l.self (map as_apriori (drop l.number-index l.numbers)) later → Schedules l.fn.self (map as_apriori l.numbers) later;
}
