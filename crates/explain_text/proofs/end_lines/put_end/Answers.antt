use Rattle.std.proofs.Common.{[], ◌∷◌, ◌++◌, decimal}
use Rattle.boot_io.specs.Line.{line_of}
use Rattle.boot_model.specs.Text.{end_text}
use Rattle.explain_text.specs.{EndLines.heap_line, EndLines.moved_lines, Words.word_of}
use Rattle.explain_text.specs.declared.keyword.Keyword.TheVariants as K
use Rattle.explain_text.proofs.HeldText.{next_added, on_ok}
use Rattle.explain_text.proofs.end_lines.put_end.Goals as goal

pub returns : goal.returns
returns c =
    let out = c.args.out.now in
    let e = c.args.explained.now in
    let move = moved_lines e.moved in
    let heap = heap_line (word_of K.End) e.heap in
    let fuel = line_of (word_of K.Fuel) (decimal e.actions ∷ []) in
    let last = line_of (word_of K.Result) (end_text e.result ∷ []) in
    let two = next_added out c.put_moved.new.out c.put_heap.new.out move heap c.in_ok-put_moved.ensures c.in_ok-put_heap.ensures in
    let three = next_added out c.put_heap.new.out c.put_line.new.out (move ++ heap) fuel two (rw (c.word_of.ensures, c.as_slice.ensures.value, c.decimal_word-actions.ensures, c.from.ensures) at c.in_ok-put_line.ensures) in
    on_ok c.put_line-2.result _ _ (λ put. next_added out c.put_line.new.out c.put_line-2.new.out (move ++ heap ++ fuel) last three (rw (c.word_of-2.ensures, c.run_end_word.ensures) at put)) c.put_line-2.ensures
