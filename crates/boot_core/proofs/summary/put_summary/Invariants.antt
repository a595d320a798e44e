use Rattle.std.proofs.Common.{◌≡◌, take, flat_map}
use Rattle.std.specs.Io.KnownBytes.{Appends}
use Rattle.boot_core.specs.GeneratedOutcome.{summary_line_text}
use Rattle.boot_core.proofs.summary.put_summary.Given as goal

-- the lines so far, without a fault
abbrev pub invariant-lines : goal.invariant-lines
invariant-lines g l = record {
  text : Appends (g.S.Sink.text l.fn.sink) (g.S.Sink.text l.sink) (flat_map summary_line_text (take l.line-index l.lines));
  count : g.S.Sink.faults l.sink ≡ g.S.Sink.faults l.fn.sink;
}
