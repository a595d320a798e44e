use Rattle.std.proofs.Common.{◌≡◌, [], ◌∷◌, ◌∙◌, decimal}
use Rattle.boot_io.specs.Line.{spaced}
use Rattle.boot_io.proofs.PutsLaws.{part_of_more, puts_err, puts_then}
use Rattle.mp_core.proofs.print.put_number.Goals as goal

pub returns-in_err-put-clause-text : goal.returns-in_err-put-clause-text
returns-in_err-put-clause-text g c =
    let T = g.S.Sink.text in
    puts_err c.from_residual.result (T c.args.sink.now) (T c.put.new.self) (spaced (decimal c.args.number)) c.from_residual.ensures.0
    (part_of_more (T c.args.sink.now) (T c.put.new.self) (32 ∷ []) (decimal c.args.number) c.in_err-put.ensures.text)

pub returns-clause-text : goal.returns-clause-text
returns-clause-text g c =
    let T = g.S.Sink.text in
    let digits : c.split_at.result.0.now ≡ decimal c.args.number = c.split_at.ensures.front ∙ c.decimal-len.ensures.text in
    puts_then c.put-2.result (T c.args.sink.now) (T c.put.new.self) (T c.put-2.new.self) (32 ∷ []) (decimal c.args.number) c.in_ok-put.ensures.text
    (rw digits at c.put-2.ensures.text)
