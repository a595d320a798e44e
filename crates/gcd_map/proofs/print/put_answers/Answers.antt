use Rattle.std.proofs.Common.{rules}
use Rattle.gcd_map.specs.MapText.{answer_line}
use Rattle.gcd_map.proofs.Prints.{more_at, part_at}
use Rattle.boot_io.proofs.PutsLaws.{puts_err}
use Rattle.gcd_map.proofs.print.put_answers.Goals as goal

pub returns-in_err-put_answer-clause-text : goal.returns-in_err-put_answer-clause-text
returns-in_err-put_answer-clause-text g c =
    let T = g.S.Sink.text in
    puts_err c.from_residual.result (T c.args.sink.now) (T c.put_answer.new.sink) _ c.from_residual.ensures.0
    (part_at answer_line c.args.steps.now c.put.step-index _ (T c.args.sink.now) (T c.put.sink) (T c.put_answer.new.sink) c.put-test.true c.put.invariant.text c.in_err-put_answer.ensures.text)

pub put-preserved : goal.put-preserved
put-preserved g c =
    let T = g.S.Sink.text in
    record {
      text = more_at answer_line c.args.steps.now c.put.step-index _ (T c.args.sink.now) (T c.put.sink) (T c.put_answer.new.sink) c.put-test.true c.put.invariant.text c.in_ok-put_answer.ensures.text;
      count = search rules;
    }
