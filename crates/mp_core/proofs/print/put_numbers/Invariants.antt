use Rattle.std.proofs.Common.{◌≡◌, drop, map, decimal, flat_map}
use Rattle.boot_io.specs.Line.{spaced}
use Rattle.mp_core.proofs.Putting.{IsLeft}
use Rattle.mp_core.proofs.print.put_numbers.Given as goal

-- the numbers so far, without a fault
abbrev pub invariant-numbers : goal.invariant-numbers
invariant-numbers g l = record {
  text : IsLeft (g.S.Sink.text l.fn.sink) (g.S.Sink.text l.sink) (flat_map spaced (map decimal (drop l.number-index l.numbers))) (flat_map spaced (map decimal l.numbers));
  count : g.S.Sink.faults l.sink ≡ g.S.Sink.faults l.fn.sink;
}
