use Rattle.std.proofs.Common.{sym, refl, codes}
use Rattle.asm_text.specs.Front.{guid_word}
use Rattle.asm_text.proofs.Fronts.{behind_is}
use Rattle.asm_text.proofs.Expressions.{found_before, found_after, sor_ok}
use Rattle.asm_text.proofs.depex_reading.expression.Goals as goal

pub returns-in-Some : goal.returns-in-Some
returns-in-Some c =
    let word = c.in-Some.word.now in
    rw c.before_line.ensures (found_before c.args.line.now word (guid_word word) (behind_is (codes "before ") c.args.line.now word (sym c.in-Some.ensures.found)) refl)

pub returns-in-Some-behind : goal.returns-in-Some-behind
returns-in-Some-behind c =
    let word = c.in-Some-behind.word.now in
    rw c.after_line.ensures (found_after c.args.line.now word (guid_word word) (behind_is (codes "after ") c.args.line.now word (sym c.in-Some-behind.ensures.found)) refl)

pub returns-in-Some-behind-2 : goal.returns-in-Some-behind-2
returns-in-Some-behind-2 c =
    let text = c.in-Some-behind-2.text.now in
    sor_ok c.args.line.now text c.tree_line.result (behind_is (codes "sor ") c.args.line.now text (sym c.in-Some-behind-2.ensures.found)) c.tree_line.ensures
