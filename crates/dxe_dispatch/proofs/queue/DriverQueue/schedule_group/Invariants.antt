use Rattle.std.proofs.Common.{◌≡◌, length, reverse}
use Rattle.pi_base.specs.Lists.{Each}
use Rattle.boot_model.specs.DxeChoice.{schedule_of}
use Rattle.dxe_dispatch.specs.{Choosing.HasFlagFor, Choosing.Schedules, Queue.Queue}
use Rattle.dxe_dispatch.proofs.queue.DriverQueue.schedule_group.Given as goal

-- those that are left complete what is scheduled
abbrev pub invariant-group : goal.invariant-group
invariant-group l = record {
  flags : length l.self.waits ≡ length l.fn.self.waits;
  left : Each (HasFlagFor l.fn.self) l.group;
  on : (later : Queue) → Schedules l.self (schedule_of l.fn.catalog (reverse l.group)) later → Schedules l.fn.self (schedule_of l.fn.catalog (reverse l.fn.group)) later;
}

abbrev pub decreases-group : goal.decreases-group
decreases-group l = length l.group
