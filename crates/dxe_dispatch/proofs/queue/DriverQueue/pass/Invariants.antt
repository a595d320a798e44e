use Rattle.std.proofs.Common.{◌≡◌, ◌≤◌, ◌+◌, ◌++◌, drop}
use Rattle.boot_model.specs.DxeMachine.{DxeMachine}
use Rattle.dxe_dispatch.specs.Passes.{pass_of}
use Rattle.dxe_dispatch.specs.Queue.{IsQueueFor, IsQueueOf, IsSeen, owed}
use Rattle.dxe_dispatch.proofs.queue.DriverQueue.pass.Given as goal

-- those that are left complete the pass
abbrev pub invariant-drivers : goal.invariant-drivers
invariant-drivers g l = record {
  row : (m : DxeMachine) → IsSeen l.fn.catalog m l.fn.self l.fn.order → l.pass ++ pass_of l.fn.catalog m (drop l.number-index l.drivers) ≡ pass_of l.fn.catalog m l.drivers;
  queue : (m : DxeMachine) → IsQueueOf l.fn.catalog m l.fn.self → IsQueueOf l.fn.catalog m l.self;
  made : IsQueueFor l.fn.catalog l.self;
  owes : l.steps + owed l.self ≤ l.fn.steps + owed l.fn.self;
}
