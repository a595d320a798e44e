use Rattle.std.proofs.Common.{◌≡◌, take}
use Rattle.std.specs.Io.KnownBytes.{Appends}
use Rattle.boot_model.specs.Text.{text_of}
use Rattle.boot_trace.proofs.line.put_all.Given as goal

-- the lines so far, without a fault
abbrev pub invariant-loop-line : goal.invariant-loop-line
invariant-loop-line g l = record {
  text : Appends (g.S.Sink.text l.fn.sink) (g.S.Sink.text l.sink) (text_of (take l.line-index l.lines));
  count : g.S.Sink.faults l.sink ≡ g.S.Sink.faults l.fn.sink;
}
