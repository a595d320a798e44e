use Rattle.std.proofs.Common.{ℕ, List, flat_map, subst}
use Rattle.std.specs.Io.KnownBytes.{Appends}
use Rattle.boot_io.specs.Sink.{AppendsPart}
use Rattle.boot_io.proofs.PutsLaws.{puts_err}
use Rattle.boot_model.specs.declared.line.Line.TheVariants as L
use Rattle.boot_model.specs.Text.{line_text}
use Rattle.boot_core.specs.Closing.{interface_text, result_text}
use Rattle.store_model.specs.declared.interface.Interface.{Interface}
use Rattle.boot_core.proofs.ClosingLines.{first_part, second_part, puts_all}
use Rattle.boot_core.proofs.whole.closing.put_result.Goals as goal

pub returns-in_err-put_made-clause-text : goal.returns-in_err-put_made-clause-text
returns-in_err-put_made-clause-text g c =
    let T = g.S.Sink.text in
    let P : ℕ → Type 0 = λ n. AppendsPart (T c.args.sink.now) (T c.put_made.new.sink) (line_text (L.Handles n)) in
    puts_err c.from_residual.result (T c.args.sink.now) (T c.put_made.new.sink) (result_text c.args.handles.now c.args.end) c.from_residual.ensures.0
    (first_part c.args.handles.now c.args.end (T c.args.sink.now) (T c.put_made.new.sink) (subst P c.count_of-count.ensures c.in_err-put_made.ensures.text))

pub returns-in_err-put_interfaces-clause-text : goal.returns-in_err-put_interfaces-clause-text
returns-in_err-put_interfaces-clause-text g c =
    let T = g.S.Sink.text in
    let P : ℕ → Type 0 = λ n. Appends (T c.args.sink.now) (T c.put_made.new.sink) (line_text (L.Handles n)) in
    let Q : List Interface → Type 0 = λ interfaces. AppendsPart (T c.put_made.new.sink) (T c.put_interfaces.new.sink) (flat_map interface_text interfaces) in
    puts_err c.from_residual-in_err-put_interfaces.result (T c.args.sink.now) (T c.put_interfaces.new.sink) (result_text c.args.handles.now c.args.end) c.from_residual-in_err-put_interfaces.ensures.0
    (second_part c.args.handles.now c.args.end (T c.args.sink.now) (T c.put_made.new.sink) (T c.put_interfaces.new.sink) (subst P c.count_of-count.ensures c.in_ok-put_made.ensures.text) (subst Q c.interfaces.ensures c.in_err-put_interfaces.ensures.text))

pub returns-clause-text : goal.returns-clause-text
returns-clause-text g c =
    let T = g.S.Sink.text in
    let P : ℕ → Type 0 = λ n. Appends (T c.args.sink.now) (T c.put_made.new.sink) (line_text (L.Handles n)) in
    let Q : List Interface → Type 0 = λ interfaces. Appends (T c.put_made.new.sink) (T c.put_interfaces.new.sink) (flat_map interface_text interfaces) in
    puts_all c.put_made-2.result c.args.handles.now c.args.end (T c.args.sink.now) (T c.put_made.new.sink) (T c.put_interfaces.new.sink) (T c.put_made-2.new.sink)
    (subst P c.count_of-count.ensures c.in_ok-put_made.ensures.text) (subst Q c.interfaces.ensures c.in_ok-put_interfaces.ensures.text) c.put_made-2.ensures.text
