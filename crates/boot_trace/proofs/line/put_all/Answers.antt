use Rattle.std.proofs.Common.{◌∙◌}
use Rattle.boot_model.specs.Text.{line_text}
use Rattle.boot_io.proofs.PutsLaws.{lines_more, part_of_lines, puts_err}
use Rattle.boot_trace.proofs.PutLines.{all_lines}
use Rattle.boot_trace.proofs.line.put_all.Goals as goal

pub returns-in_err-put-clause-text : goal.returns-in_err-put-clause-text
returns-in_err-put-clause-text g c =
    let T = g.S.Sink.text in
    puts_err c.from_residual.result (T c.args.sink.now) (T c.put.new.sink) _ c.from_residual.ensures.0
    (part_of_lines line_text c.args.lines.now c.loop-line.line-index c.line-item.result (T c.args.sink.now) (T c.loop-line.sink) (T c.put.new.sink)
    c.loop-line-test.true c.line-item.is c.loop-line.invariant.text c.in_err-put.ensures.text)

pub loop-line-preserved : goal.loop-line-preserved
loop-line-preserved g c =
    let T = g.S.Sink.text in
    record {
      text = lines_more line_text c.args.lines.now c.loop-line.line-index c.line-item.result (T c.args.sink.now) (T c.loop-line.sink) (T c.put.new.sink)
          c.loop-line-test.true c.line-item.is c.loop-line.invariant.text c.in_ok-put.ensures.text;
      count = c.in_ok-put.ensures.cause ∙ c.loop-line.invariant.count;
    }

pub returns-clause-text : goal.returns-clause-text
returns-clause-text g c =
    let T = g.S.Sink.text in
    all_lines line_text c.args.lines.now c.loop-line.line-index (T c.args.sink.now) (T c.loop-line.sink) c.loop-line-test.false c.loop-line.invariant.text
