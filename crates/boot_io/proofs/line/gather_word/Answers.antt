use Rattle.std.proofs.Common.{[], ◌∷◌}
use Rattle.boot_io.specs.Line.{spaced}
use Rattle.boot_io.proofs.PutsLaws.{gathers_then, gathers_fails, gathers_err}
use Rattle.boot_io.proofs.line.gather_word.Goals as goal

pub returns-in_err-gather-clause-text : goal.returns-in_err-gather-clause-text
returns-in_err-gather-clause-text g c =
    let T = g.S.Sink.text in
    gathers_err c.from_residual.result (T c.args.sink.now) (T c.gather.new.sink) c.args.line.now.items c.gather.new.line.items (spaced c.args.word.now) c.from_residual.ensures.0
    (gathers_fails (T c.args.sink.now) (T c.gather.new.sink) c.args.line.now.items (32 ∷ []) c.args.word.now c.in_err-gather.ensures.text)

pub returns-clause-text : goal.returns-clause-text
returns-clause-text g c =
    let T = g.S.Sink.text in
    gathers_then c.gather-2.result (T c.args.sink.now) (T c.gather.new.sink) (T c.gather-2.new.sink) c.args.line.now.items c.gather.new.line.items c.gather-2.new.line.items
    (32 ∷ []) c.args.word.now c.in_ok-gather.ensures.text c.gather-2.ensures.text
