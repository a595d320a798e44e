use Rattle.std.proofs.Common.{Bool, ◌++◌, ap, cond, sym, ◌∙◌}
use Rattle.boot_io.specs.Line.{spaced}
use Rattle.explain_text.specs.declared.keyword.Keyword.TheVariants as K
use Rattle.explain_text.specs.{Flags.flag, Words.word_of}
use Rattle.explain_text.proofs.HeldText.{on_ok, pair_added}
use Rattle.explain_text.proofs.held_lines.put_pair.Goals as goal

pub returns-then-flag : goal.returns-then-flag
returns-then-flag c =
    let mid = c.put_word.new.out in
    on_ok c.put_word-then-flag.result _ _
    (λ put. pair_added (flag c.args.started.now) c.args.number c.args.out.now mid c.put_word-then-flag.new.out (rw (c.as_slice.ensures.value, c.decimal_word.ensures, c.from.ensures) at c.in_ok-put_word.ensures)
    (put ∙ ap (λ word. mid ++ spaced word) (c.word_of.ensures ∙ ap (λ (b : Bool). word_of (cond b K.Started K.Waits)) (sym c.if-flag.true ∙ c.flag.ensures)))) c.put_word-then-flag.ensures

pub returns-else-flag : goal.returns-else-flag
returns-else-flag c =
    let mid = c.put_word.new.out in
    on_ok c.put_word-else-flag.result _ _
    (λ put. pair_added (flag c.args.started.now) c.args.number c.args.out.now mid c.put_word-else-flag.new.out (rw (c.as_slice.ensures.value, c.decimal_word.ensures, c.from.ensures) at c.in_ok-put_word.ensures)
    (put ∙ ap (λ word. mid ++ spaced word) (c.word_of-else-flag.ensures ∙ ap (λ (b : Bool). word_of (cond b K.Started K.Waits)) (sym c.if-flag.false ∙ c.flag.ensures)))) c.put_word-else-flag.ensures
