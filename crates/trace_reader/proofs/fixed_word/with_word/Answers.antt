use Rattle.std.proofs.Common.{◌∙◌, sym, ap, arith}
use Rattle.trace_reader.proofs.fixed_word.with_word.Goals as goal

pub returns-clause-found : goal.returns-clause-found
returns-clause-found g c = λ value is.
    let there = c.all-value-items.ensures.each value in
    c.values.invariant there.0 value (omega (arith, there.1, c.values-test.false)) (is.1 ∙ ap g.T.FixedWord.text_of (sym there.2))
