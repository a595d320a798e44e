use Rattle.source_words.proofs.Says.{says_some, says_none}
use Rattle.source_words.proofs.depex.law.no_cause.Goals as goal

pub returns-clause-some : goal.returns-clause-some
returns-clause-some c = says_some

pub returns-clause-none : goal.returns-clause-none
returns-clause-none c = says_none
