use Rattle.std.proofs.Common.{◌≡◌, take}
use Rattle.std.specs.Io.KnownBytes.{Appends}
use Rattle.boot_model.specs.{Discovery.discovery_lines, Text.text_of}
use Rattle.dxe_core.proofs.lines.put_volumes.Given as goal

abbrev pub invariant-volumes : goal.invariant-volumes
invariant-volumes g l = record {
  text : Appends (g.S.Sink.text l.fn.sink) (g.S.Sink.text l.sink) (text_of (discovery_lines (take l.volume-index l.volumes)));
  count : g.S.Sink.faults l.sink ≡ g.S.Sink.faults l.fn.sink;
}
