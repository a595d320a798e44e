use Rattle.std.proofs.Common.{◌≡◌, length}
use Rattle.dxe_dispatch.specs.Choosing.{AllWait}
use Rattle.dxe_dispatch.proofs.queue.all_wait.Given as goal

abbrev pub invariant-modules : goal.invariant-modules
invariant-modules l = record {
  waits : AllWait l.waits;
  flags : length l.waits ≡ l.index;
}
