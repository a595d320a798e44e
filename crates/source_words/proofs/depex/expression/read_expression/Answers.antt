use Rattle.source_words.proofs.Says.{gives_back}
use Rattle.source_words.proofs.depex.expression.read_expression.Goals as goal

pub returns-clause-again : goal.returns-clause-again
returns-clause-again c = gives_back c.args.phase c.args.text.now c.read_short.result c.read_short.ensures.read c.read_short.ensures.refused
