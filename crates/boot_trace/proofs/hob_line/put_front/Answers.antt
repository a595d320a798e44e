use Rattle.std.proofs.Common.{◌++◌, [], ◌∷◌, decimal}
use Rattle.boot_io.proofs.PutsLaws.{puts_then, part_of_more}
use Rattle.boot_trace.proofs.hob_line.put_front.Goals as goal

pub returns-in-Ok-clause-text : goal.returns-in-Ok-clause-text
returns-in-Ok-clause-text g c =
    let T = g.S.Sink.text in
    puts_then c.put_both-in-Ok.result (T c.args.sink.now) (T c.put_both.new.sink) (T c.put_both-in-Ok.new.sink) (c.args.keyword.now ++ 32 ∷ []) (decimal c.args.kind ++ 32 ∷ [])
    c.in-Ok.ensures.text (rw (c.as_slice.ensures.value, c.decimal_word.ensures, c.from.ensures) at c.put_both-in-Ok.ensures.text)

pub returns-in-Err-clause-text : goal.returns-in-Err-clause-text
returns-in-Err-clause-text g c =
    let T = g.S.Sink.text in
    part_of_more (T c.args.sink.now) (T c.put_both.new.sink) (c.args.keyword.now ++ 32 ∷ []) (decimal c.args.kind ++ 32 ∷ []) c.in-Err.ensures.text
