use Rattle.std.proofs.Common.{◌≡◌, drop, flat_map}
use Rattle.std.specs.List.{enumerate_from}
use Rattle.mp_core.specs.OutcomeText.{record_line, records_text}
use Rattle.mp_core.proofs.Putting.{IsLeft}
use Rattle.mp_core.proofs.print.put_records.Given as goal

-- the lines so far, without a fault
abbrev pub invariant-records : goal.invariant-records
invariant-records g l = record {
  text : IsLeft (g.S.Sink.text l.fn.sink) (g.S.Sink.text l.sink) (flat_map record_line (enumerate_from l.processor (drop l.processor l.records))) (records_text l.records);
  count : g.S.Sink.faults l.sink ≡ g.S.Sink.faults l.fn.sink;
}
