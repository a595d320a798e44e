use Rattle.std.proofs.Common.{◌≡◌, take, flat_map}
use Rattle.std.specs.Io.KnownBytes.{Appends}
use Rattle.boot_core.specs.Closing.{interface_text}
use Rattle.boot_core.proofs.whole.closing.put_interfaces.Given as goal

-- the lines so far, without a fault
abbrev pub invariant-interfaces : goal.invariant-interfaces
invariant-interfaces g l = record {
  text : Appends (g.S.Sink.text l.fn.sink) (g.S.Sink.text l.sink) (flat_map interface_text (take l.interface-index l.interfaces));
  count : g.S.Sink.faults l.sink ≡ g.S.Sink.faults l.fn.sink;
}
