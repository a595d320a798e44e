use Rattle.std.proofs.Common.{◌+◌, drop, rules, flat_map}
use Rattle.std.specs.List.{enumerate_from}
use Rattle.mp_core.specs.OutcomeText.{record_line}
use Rattle.mp_core.proofs.Putting.{left_is, left_more, left_fails, next_line}
use Rattle.boot_io.proofs.PutsLaws.{puts_err}
use Rattle.mp_core.proofs.print.put_records.Goals as goal

pub returns-in_err-put_record-clause-text : goal.returns-in_err-put_record-clause-text
returns-in_err-put_record-clause-text g c =
    let T = g.S.Sink.text in
    let xs = c.args.records.now in
    let i = c.records.processor in
    let x = c.index-records-processor in
    let so_far = left_is (T c.args.sink.now) (T c.records.sink) _ _ _ c.records.invariant.text (next_line record_line xs i x.result c.records-test.true x.is) in
    puts_err c.from_residual.result (T c.args.sink.now) (T c.put_record.new.sink) _ c.from_residual.ensures.0
    (left_fails (T c.args.sink.now) (T c.records.sink) (T c.put_record.new.sink) (record_line (i, x.result)) (flat_map record_line (enumerate_from (i + 1) (drop (i + 1) xs))) _ so_far
    (rw c.as_slice.ensures at c.in_err-put_record.ensures.text))

pub records-preserved : goal.records-preserved
records-preserved g c =
    let T = g.S.Sink.text in
    let xs = c.args.records.now in
    let i = c.records.processor in
    let x = c.index-records-processor in
    let so_far = left_is (T c.args.sink.now) (T c.records.sink) _ _ _ c.records.invariant.text (next_line record_line xs i x.result c.records-test.true x.is) in
    record {
      text = left_more (T c.args.sink.now) (T c.records.sink) (T c.put_record.new.sink) (record_line (i, x.result)) (flat_map record_line (enumerate_from (i + 1) (drop (i + 1) xs))) _ so_far
          (rw c.as_slice.ensures at c.in_ok-put_record.ensures.text);
      count = search rules;
    }
