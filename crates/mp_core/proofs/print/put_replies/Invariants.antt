use Rattle.std.proofs.Common.{◌≡◌, length}
use Rattle.mp_core.specs.OutcomeText.{replies_text}
use Rattle.mp_core.proofs.Putting.{IsLeft}
use Rattle.mp_core.proofs.print.put_replies.Given as goal

-- the lines so far, without a fault
abbrev pub invariant-events : goal.invariant-events
invariant-events g l = record {
  text : IsLeft (g.S.Sink.text l.fn.sink) (g.S.Sink.text l.sink) (replies_text l.later l.answers) (replies_text l.events l.replies);
  count : g.S.Sink.faults l.sink ≡ g.S.Sink.faults l.fn.sink;
}

abbrev pub decreases-events : goal.decreases-events
decreases-events g l = length l.later
