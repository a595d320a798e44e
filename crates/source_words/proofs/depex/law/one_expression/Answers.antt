use Rattle.source_words.proofs.Says.{says_one}
use Rattle.source_words.proofs.depex.law.one_expression.Goals as goal

pub returns : goal.returns
returns c = says_one
