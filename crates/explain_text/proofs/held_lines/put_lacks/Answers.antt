use Rattle.std.proofs.Common.{[], ◌∷◌, decimal}
use Rattle.pi_base.specs.WordText.{guid_text}
use Rattle.explain_text.specs.{HeldLines.lacks_words, Words.word_of}
use Rattle.explain_text.specs.declared.keyword.Keyword.TheVariants as K
use Rattle.explain_text.proofs.HeldText.{line_added, on_ok}
use Rattle.explain_text.proofs.held_lines.put_lacks.Goals as goal

pub returns : goal.returns
returns c = λ begun modules is.
    on_ok c.end_line.result _ _
    (λ put. line_added (word_of K.Lacks) (decimal c.args.number ∷ guid_text c.args.guid.now ∷ []) (lacks_words begun modules c.args.phase c.args.guid.now) c.args.out.now _ _ _
    (rw (c.word_of.ensures, c.as_slice.ensures.value, c.decimal_word.ensures, c.from.ensures, c.to_text.ensures) at c.in_ok-put_front.ensures) (c.in_ok-put_givers.ensures begun modules is) put)
    c.end_line.ensures
