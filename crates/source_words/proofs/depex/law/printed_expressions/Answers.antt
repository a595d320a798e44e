use Rattle.source_words.proofs.PrintedWords.{expression_is}
use Rattle.source_words.proofs.depex.law.printed_expressions.Goals as goal

pub returns : goal.returns
returns c = expression_is
