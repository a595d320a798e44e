use Rattle.source_words.proofs.Said.{said_result}
use Rattle.source_words.proofs.script.action.read_action.Goals as goal

pub returns-clause-said : goal.returns-clause-said
returns-clause-said c = said_result c.args.phase c.args.line.now c.action_of.result c.action_of.ensures
