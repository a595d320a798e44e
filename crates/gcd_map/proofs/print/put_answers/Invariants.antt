use Rattle.std.proofs.Common.{◌≡◌, take}
use Rattle.std.specs.Io.KnownBytes.{Appends}
use Rattle.gcd_map.specs.MapText.{answers_text}
use Rattle.gcd_map.proofs.print.put_answers.Given as goal

-- the lines so far, without a fault
abbrev pub invariant-put : goal.invariant-put
invariant-put g l = record {
  text : Appends (g.S.Sink.text l.fn.sink) (g.S.Sink.text l.sink) (answers_text (take l.step-index l.steps));
  count : g.S.Sink.faults l.sink ≡ g.S.Sink.faults l.fn.sink;
}
