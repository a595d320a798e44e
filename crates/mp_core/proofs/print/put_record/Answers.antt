use Rattle.std.proofs.Common.{[], ◌∷◌, ◌++◌, map, decimal, flat_map, rules}
use Rattle.boot_io.specs.Line.{spaced}
use Rattle.boot_io.proofs.PutsLaws.{puts_err}
use Rattle.mp_core.specs.OutcomeText.{record_keyword, record_line}
use Rattle.mp_core.proofs.Putting.{left_more, left_fails, left_put}
use Rattle.mp_core.proofs.RecordLines.{line_whole}
use Rattle.mp_core.proofs.print.put_record.Goals as goal

pub returns-in_err-put-clause-text : goal.returns-in_err-put-clause-text
returns-in_err-put-clause-text g c =
    let T = g.S.Sink.text in
    let behind = spaced (decimal c.args.processor) ++ (flat_map spaced (map decimal c.args.numbers.now) ++ 10 ∷ []) in
    let line = record_line (c.args.processor, c.args.numbers.now) in
    let whole = line_whole (T c.args.sink.now) c.args.processor c.args.numbers.now (search rules) in
    puts_err c.from_residual.result (T c.args.sink.now) (T c.put.new.self) line c.from_residual.ensures.0
    (left_fails (T c.args.sink.now) (T c.args.sink.now) (T c.put.new.self) record_keyword behind line whole (rw c.record_keyword.ensures at c.in_err-put.ensures.text))

pub returns-in_err-put_number-clause-text : goal.returns-in_err-put_number-clause-text
returns-in_err-put_number-clause-text g c =
    let T = g.S.Sink.text in
    let numbers = flat_map spaced (map decimal c.args.numbers.now) in
    let behind = spaced (decimal c.args.processor) ++ (numbers ++ 10 ∷ []) in
    let line = record_line (c.args.processor, c.args.numbers.now) in
    let whole = line_whole (T c.args.sink.now) c.args.processor c.args.numbers.now (search rules) in
    let one = left_more (T c.args.sink.now) (T c.args.sink.now) (T c.put.new.self) record_keyword behind line whole (rw c.record_keyword.ensures at c.in_ok-put.ensures.text) in
    puts_err c.from_residual-in_err-put_number.result (T c.args.sink.now) (T c.put_number.new.sink) line c.from_residual-in_err-put_number.ensures.0
    (left_fails (T c.args.sink.now) (T c.put.new.self) (T c.put_number.new.sink) (spaced (decimal c.args.processor)) (numbers ++ 10 ∷ []) line one c.in_err-put_number.ensures.text)

pub returns-in_err-put_numbers-clause-text : goal.returns-in_err-put_numbers-clause-text
returns-in_err-put_numbers-clause-text g c =
    let T = g.S.Sink.text in
    let numbers = flat_map spaced (map decimal c.args.numbers.now) in
    let behind = spaced (decimal c.args.processor) ++ (numbers ++ 10 ∷ []) in
    let line = record_line (c.args.processor, c.args.numbers.now) in
    let whole = line_whole (T c.args.sink.now) c.args.processor c.args.numbers.now (search rules) in
    let one = left_more (T c.args.sink.now) (T c.args.sink.now) (T c.put.new.self) record_keyword behind line whole (rw c.record_keyword.ensures at c.in_ok-put.ensures.text) in
    let two = left_more (T c.args.sink.now) (T c.put.new.self) (T c.put_number.new.sink) (spaced (decimal c.args.processor)) (numbers ++ 10 ∷ []) line one c.in_ok-put_number.ensures.text in
    puts_err c.from_residual-in_err-put_numbers.result (T c.args.sink.now) (T c.put_numbers.new.sink) line c.from_residual-in_err-put_numbers.ensures.0
    (left_fails (T c.args.sink.now) (T c.put_number.new.sink) (T c.put_numbers.new.sink) numbers (10 ∷ []) line two c.in_err-put_numbers.ensures.text)

pub returns-clause-text : goal.returns-clause-text
returns-clause-text g c =
    let T = g.S.Sink.text in
    let numbers = flat_map spaced (map decimal c.args.numbers.now) in
    let behind = spaced (decimal c.args.processor) ++ (numbers ++ 10 ∷ []) in
    let line = record_line (c.args.processor, c.args.numbers.now) in
    let whole = line_whole (T c.args.sink.now) c.args.processor c.args.numbers.now (search rules) in
    let one = left_more (T c.args.sink.now) (T c.args.sink.now) (T c.put.new.self) record_keyword behind line whole (rw c.record_keyword.ensures at c.in_ok-put.ensures.text) in
    let two = left_more (T c.args.sink.now) (T c.put.new.self) (T c.put_number.new.sink) (spaced (decimal c.args.processor)) (numbers ++ 10 ∷ []) line one c.in_ok-put_number.ensures.text in
    let three = left_more (T c.args.sink.now) (T c.put_number.new.sink) (T c.put_numbers.new.sink) numbers (10 ∷ []) line two c.in_ok-put_numbers.ensures.text in
    left_put c.put-2.result (T c.args.sink.now) (T c.put_numbers.new.sink) (T c.put-2.new.self) (10 ∷ []) line three c.put-2.ensures.text
