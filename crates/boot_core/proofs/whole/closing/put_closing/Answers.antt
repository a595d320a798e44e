use Rattle.std.proofs.Common.{◌++◌}
use Rattle.boot_model.specs.{Listing.store_lines, Text.text_of}
use Rattle.boot_io.proofs.PutsLaws.{puts_err, puts_then, part_of_more}
use Rattle.boot_core.specs.Closing.{result_text}
use Rattle.boot_core.proofs.whole.closing.put_closing.Goals as goal

pub returns-clause-text : goal.returns-clause-text
returns-clause-text g c = λ s stands any.
    let T = g.S.Sink.text in
    puts_then c.put_result.result (T c.args.sink.now) (T c.put_store_lists.new.sink) (T c.put_result.new.sink) (text_of (store_lines s)) (result_text c.args.handles.now c.args.end) (c.in_ok-put_store_lists.ensures.text s stands any) c.put_result.ensures.text

pub returns-in_err-put_store_lists-clause-text : goal.returns-in_err-put_store_lists-clause-text
returns-in_err-put_store_lists-clause-text g c = λ s stands any.
    let T = g.S.Sink.text in
    puts_err c.from_residual.result (T c.args.sink.now) (T c.put_store_lists.new.sink) (text_of (store_lines s) ++ result_text c.args.handles.now c.args.end) c.from_residual.ensures.0
    (part_of_more (T c.args.sink.now) (T c.put_store_lists.new.sink) (text_of (store_lines s)) (result_text c.args.handles.now c.args.end) (c.in_err-put_store_lists.ensures.text s stands any))
