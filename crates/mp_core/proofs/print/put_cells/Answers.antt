use Rattle.std.proofs.Common.{◌+◌, drop, get_or, rules, flat_map}
use Rattle.std.specs.List.{enumerate_from}
use Rattle.mp_core.specs.OutcomeText.{cell_line}
use Rattle.mp_core.proofs.Putting.{left_is, left_more, left_fails, next_line, same_read}
use Rattle.boot_io.proofs.PutsLaws.{puts_err}
use Rattle.mp_core.proofs.print.put_cells.Goals as goal

pub returns-in_err-put_cell-clause-text : goal.returns-in_err-put_cell-clause-text
returns-in_err-put_cell-clause-text g c =
    let T = g.S.Sink.text in
    let xs = c.args.cells.now in
    let i = c.cells.index in
    let so_far = left_is (T c.args.sink.now) (T c.cells.sink) _ _ _ c.cells.invariant.text
    (next_line cell_line xs i (get_or xs i 0) c.cells-test.true (same_read xs i 0 c.cells-test.true)) in
    puts_err c.from_residual.result (T c.args.sink.now) (T c.put_cell.new.sink) _ c.from_residual.ensures.0
    (left_fails (T c.args.sink.now) (T c.cells.sink) (T c.put_cell.new.sink) (cell_line (i, get_or xs i 0)) (flat_map cell_line (enumerate_from (i + 1) (drop (i + 1) xs))) _ so_far c.in_err-put_cell.ensures.text)

pub cells-preserved : goal.cells-preserved
cells-preserved g c =
    let T = g.S.Sink.text in
    let xs = c.args.cells.now in
    let i = c.cells.index in
    let so_far = left_is (T c.args.sink.now) (T c.cells.sink) _ _ _ c.cells.invariant.text
    (next_line cell_line xs i (get_or xs i 0) c.cells-test.true (same_read xs i 0 c.cells-test.true)) in
    record {
      text = left_more (T c.args.sink.now) (T c.cells.sink) (T c.put_cell.new.sink) (cell_line (i, get_or xs i 0)) (flat_map cell_line (enumerate_from (i + 1) (drop (i + 1) xs))) _ so_far c.in_ok-put_cell.ensures.text;
      count = search rules;
    }
