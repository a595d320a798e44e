use Rattle.std.proofs.Common.{◌≡◌, drop, flat_map}
use Rattle.std.specs.List.{enumerate_from}
use Rattle.mp_core.specs.OutcomeText.{cell_line, cells_text}
use Rattle.mp_core.proofs.Putting.{IsLeft}
use Rattle.mp_core.proofs.print.put_cells.Given as goal

-- the lines so far, without a fault
abbrev pub invariant-cells : goal.invariant-cells
invariant-cells g l = record {
  text : IsLeft (g.S.Sink.text l.fn.sink) (g.S.Sink.text l.sink) (flat_map cell_line (enumerate_from l.index (drop l.index l.cells))) (cells_text l.cells);
  count : g.S.Sink.faults l.sink ≡ g.S.Sink.faults l.fn.sink;
}
