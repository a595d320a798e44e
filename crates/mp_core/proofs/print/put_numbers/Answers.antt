use Rattle.std.proofs.Common.{◌+◌, map, drop, get_or, decimal, rules, flat_map}
use Rattle.boot_io.specs.Line.{spaced}
use Rattle.mp_core.proofs.Putting.{left_is, left_more, left_fails, next_word}
use Rattle.boot_io.proofs.PutsLaws.{puts_err}
use Rattle.mp_core.proofs.print.put_numbers.Goals as goal

pub returns-in_err-put_number-clause-text : goal.returns-in_err-put_number-clause-text
returns-in_err-put_number-clause-text g c =
    let T = g.S.Sink.text in
    let xs = c.args.numbers.now in
    let i = c.numbers.number-index in
    let so_far = left_is (T c.args.sink.now) (T c.numbers.sink) _ _ _ c.numbers.invariant.text (next_word decimal xs i c.numbers-test.true) in
    puts_err c.from_residual.result (T c.args.sink.now) (T c.put_number.new.sink) _ c.from_residual.ensures.0
    (left_fails (T c.args.sink.now) (T c.numbers.sink) (T c.put_number.new.sink) (spaced (decimal (get_or xs i 0))) (flat_map spaced (map decimal (drop (i + 1) xs))) _ so_far c.in_err-put_number.ensures.text)

pub numbers-preserved : goal.numbers-preserved
numbers-preserved g c =
    let T = g.S.Sink.text in
    let xs = c.args.numbers.now in
    let i = c.numbers.number-index in
    let so_far = left_is (T c.args.sink.now) (T c.numbers.sink) _ _ _ c.numbers.invariant.text (next_word decimal xs i c.numbers-test.true) in
    record {
      text = left_more (T c.args.sink.now) (T c.numbers.sink) (T c.put_number.new.sink) (spaced (decimal (get_or xs i 0))) (flat_map spaced (map decimal (drop (i + 1) xs))) _ so_far c.in_ok-put_number.ensures.text;
      count = search rules;
    }
