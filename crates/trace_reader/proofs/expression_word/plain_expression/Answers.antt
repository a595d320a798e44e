use Rattle.line_words.proofs.Comparisons.{not_same}
use Rattle.trace_reader.proofs.expression_word.plain_expression.Goals as goal

pub returns-else-eq-4-clause-none : goal.returns-else-eq-4-clause-none
returns-else-eq-4-clause-none c = λ none. record {
  no_part = λ is. not_same _ _ _ c.eq.ensures c.if-eq.false is;
  absent = λ is. not_same _ _ _ c.eq-else-eq.ensures c.if-eq-2.false is;
  tree = λ is. not_same _ _ _ c.eq-else-eq-2.ensures c.if-eq-3.false is;
  sor = λ is. not_same _ _ _ c.eq-else-eq-3.ensures c.if-eq-4.false is;
}
