use Rattle.std.proofs.Common.{subst, sym, [], ◌∷◌}
use Rattle.pi_base.specs.declared.word.Word.TheVariants.{Success}
use Rattle.boot_io.proofs.PutsLaws.{puts_err, puts_then}
use Rattle.boot_model.specs.declared.line.Line.TheVariants as L
use Rattle.boot_model.specs.Text.{line_text, text_of}
use Rattle.boot_io.specs.Sink.{Puts}
use Rattle.boot_trace.specs.StartLines.{started_lines}
use Rattle.boot_trace.proofs.StartLines.{first_text, one_text}
use Rattle.boot_trace.proofs.start.put_start.Goals as goal

pub returns-in_err-put_made-clause-text : goal.returns-in_err-put_made-clause-text
returns-in_err-put_made-clause-text g c =
    let T = g.S.Sink.text in
    puts_err c.from_residual.result (T c.args.sink.now) (T c.put_made.new.sink) (text_of (started_lines c.args.line c.args.runs)) c.from_residual.ensures.0
    (first_text c.args.line c.args.runs (T c.args.sink.now) (T c.put_made.new.sink) c.in_err-put_made.ensures.text)

pub returns-clause-text : goal.returns-clause-text
returns-clause-text g c =
    let T = g.S.Sink.text in
    let end = L.End Success in
    rw c.if-runs.false (puts_then c.put_made-2.result (T c.args.sink.now) (T c.put_made.new.sink) (T c.put_made-2.new.sink) (line_text c.args.line) (text_of (end ∷ [])) c.in_ok-put_made.ensures.text
    (subst (λ text. Puts c.put_made-2.result (T c.put_made.new.sink) (T c.put_made-2.new.sink) text) (sym (one_text end)) c.put_made-2.ensures.text))
