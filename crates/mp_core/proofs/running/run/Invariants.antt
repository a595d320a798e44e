use Rattle.std.proofs.Common.{◌≡◌, take}
use Rattle.mp_core.specs.Machine.{IsMachine}
use Rattle.mp_core.specs.Past.{opening, past_from, replies_from}
use Rattle.mp_core.proofs.running.run.Given as goal

abbrev pub invariant-loop-event : goal.invariant-loop-event
invariant-loop-event l = record {
  stands : IsMachine l.processors l.cells (past_from l.processors opening (take l.event-index l.events)) l.machine;
  replies_are : l.replies ≡ replies_from l.processors opening (take l.event-index l.events);
}
