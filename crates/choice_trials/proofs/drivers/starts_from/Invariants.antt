use Rattle.boot_model.specs.DxeMachine.{DxeMachine}
use Rattle.dxe_dispatch.specs.Queue.{IsQueueFor, IsSeen}
use Rattle.choice_trials.proofs.drivers.starts_from.Given as goal

-- a machine is seen with this queue
abbrev pub invariant-starts : goal.invariant-starts
invariant-starts g l = record {
  made : IsQueueFor l.fn.catalog l.queue;
  seen : (m : DxeMachine) × IsSeen l.fn.catalog m l.queue l.order;
}
