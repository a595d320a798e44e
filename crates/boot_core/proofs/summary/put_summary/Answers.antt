use Rattle.std.proofs.{Common.flat_map, lemmas.List.get_or_default}
use Rattle.boot_io.proofs.PutsLaws.{part_of_lines, puts_err}
use Rattle.boot_core.specs.GeneratedOutcome.{summary_line_text}
use Rattle.boot_core.proofs.summary.put_summary.Goals as goal

pub returns-in_err-put_summary_line-clause-text : goal.returns-in_err-put_summary_line-clause-text
returns-in_err-put_summary_line-clause-text g c =
    let T = g.S.Sink.text in
    let lines = c.args.lines.now in
    let at = c.lines.line-index in
    puts_err c.from_residual.result (T c.args.sink.now) (T c.put_summary_line.new.sink) (flat_map summary_line_text lines) c.from_residual.ensures.0
    (part_of_lines summary_line_text lines at _ (T c.args.sink.now) (T c.lines.sink) (T c.put_summary_line.new.sink) c.lines-test.true (get_or_default lines at _ _ c.lines-test.true)
    c.lines.invariant.text c.in_err-put_summary_line.ensures.text)
