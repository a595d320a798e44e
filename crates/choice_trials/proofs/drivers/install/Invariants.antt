use Rattle.boot_model.specs.DxeMachine.{DxeMachine}
use Rattle.dxe_dispatch.specs.Queue.{IsQueueFor, IsSeen}
use Rattle.choice_trials.proofs.drivers.install.Given as goal

-- a machine is seen with this queue
abbrev pub invariant-protocols : goal.invariant-protocols
invariant-protocols l = record {
  made : IsQueueFor l.fn.catalog l.queue;
  seen : (m : DxeMachine) × IsSeen l.fn.catalog m l.queue l.fn.order;
}
