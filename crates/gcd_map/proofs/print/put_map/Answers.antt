use Rattle.std.proofs.Common.{rules}
use Rattle.gcd_map.specs.MapText.{range_line}
use Rattle.gcd_map.proofs.Prints.{more_at, part_at}
use Rattle.boot_io.proofs.PutsLaws.{puts_err}
use Rattle.gcd_map.proofs.print.put_map.Goals as goal

pub returns-in_err-put_range-clause-text : goal.returns-in_err-put_range-clause-text
returns-in_err-put_range-clause-text g c =
    let T = g.S.Sink.text in
    puts_err c.from_residual.result (T c.args.sink.now) (T c.put_range.new.sink) _ c.from_residual.ensures.0
    (part_at range_line c.args.ranges.now c.put.range-index _ (T c.args.sink.now) (T c.put.sink) (T c.put_range.new.sink) c.put-test.true c.put.invariant.text c.in_err-put_range.ensures.text)

pub put-preserved : goal.put-preserved
put-preserved g c =
    let T = g.S.Sink.text in
    record {
      text = more_at range_line c.args.ranges.now c.put.range-index _ (T c.args.sink.now) (T c.put.sink) (T c.put_range.new.sink) c.put-test.true c.put.invariant.text c.in_ok-put_range.ensures.text;
      count = search rules;
    }
