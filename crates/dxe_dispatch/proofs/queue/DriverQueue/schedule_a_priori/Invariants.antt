use Rattle.std.proofs.Common.{◌≡◌, drop, length}
use Rattle.boot_model.specs.DxeChoice.{a_priori_drivers}
use Rattle.dxe_dispatch.specs.{Choosing.Schedules, Queue.Queue}
use Rattle.dxe_dispatch.proofs.queue.DriverQueue.schedule_a_priori.Given as goal

-- those that are left complete what is scheduled
abbrev pub invariant-volumes : goal.invariant-volumes
invariant-volumes l = record {
  flags : length l.self.waits ≡ length l.fn.self.waits;
  on : (later : Queue) → Schedules l.self (a_priori_drivers l.fn.catalog (drop l.volume-index l.volumes)) later → Schedules l.fn.self (a_priori_drivers l.fn.catalog l.volumes) later;
}
