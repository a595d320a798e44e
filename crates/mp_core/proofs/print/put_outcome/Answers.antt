use Rattle.std.proofs.Common.{◌++◌}
use Rattle.mp_core.specs.OutcomeText.{replies_text, cells_text, records_text, outcome_text}
use Rattle.boot_io.proofs.PutsLaws.{appends_then, part_then, part_of_more, puts_err, puts_then}
use Rattle.mp_core.proofs.print.put_outcome.Goals as goal

pub returns-in_err-put_cells-clause-text : goal.returns-in_err-put_cells-clause-text
returns-in_err-put_cells-clause-text g c =
    let T = g.S.Sink.text in
    let replies = replies_text c.args.file.now.events c.args.outcome.now.replies in
    let cells = cells_text c.args.outcome.now.cells in
    let part = part_then (T c.args.sink.now) (T c.put_replies.new.sink) (T c.put_cells.new.sink) replies cells
    (rw (c.as_slice.ensures, c.as_slice-2.ensures) at c.in_ok-put_replies.ensures.text) (rw c.as_slice-3.ensures at c.in_err-put_cells.ensures.text) in
    puts_err c.from_residual-in_err-put_cells.result (T c.args.sink.now) (T c.put_cells.new.sink) (outcome_text c.args.file.now.events c.args.outcome.now) c.from_residual-in_err-put_cells.ensures.0
    (part_of_more (T c.args.sink.now) (T c.put_cells.new.sink) (replies ++ cells) (records_text c.args.outcome.now.records) part)

pub returns-clause-text : goal.returns-clause-text
returns-clause-text g c =
    let T = g.S.Sink.text in
    let replies = replies_text c.args.file.now.events c.args.outcome.now.replies in
    let cells = cells_text c.args.outcome.now.cells in
    let both = appends_then (T c.args.sink.now) (T c.put_replies.new.sink) (T c.put_cells.new.sink) replies cells
    (rw (c.as_slice.ensures, c.as_slice-2.ensures) at c.in_ok-put_replies.ensures.text) (rw c.as_slice-3.ensures at c.in_ok-put_cells.ensures.text) in
    puts_then c.put_records.result (T c.args.sink.now) (T c.put_cells.new.sink) (T c.put_records.new.sink) (replies ++ cells) (records_text c.args.outcome.now.records) both
    (rw c.as_slice-4.ensures at c.put_records.ensures.text)
