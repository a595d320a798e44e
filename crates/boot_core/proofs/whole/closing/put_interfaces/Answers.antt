use Rattle.std.proofs.{Common.flat_map, lemmas.List.get_or_default}
use Rattle.boot_io.proofs.PutsLaws.{part_of_lines, puts_err}
use Rattle.boot_core.specs.Closing.{interface_text}
use Rattle.boot_core.proofs.whole.closing.put_interfaces.Goals as goal

pub returns-in_err-put_interface-clause-text : goal.returns-in_err-put_interface-clause-text
returns-in_err-put_interface-clause-text g c =
    let T = g.S.Sink.text in
    let interfaces = c.args.interfaces.now in
    let at = c.interfaces.interface-index in
    puts_err c.from_residual.result (T c.args.sink.now) (T c.put_interface.new.sink) (flat_map interface_text interfaces) c.from_residual.ensures.0
    (part_of_lines interface_text interfaces at _ (T c.args.sink.now) (T c.interfaces.sink) (T c.put_interface.new.sink) c.interfaces-test.true (get_or_default interfaces at _ _ c.interfaces-test.true)
    c.interfaces.invariant.text c.in_err-put_interface.ensures.text)
