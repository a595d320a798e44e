use Rattle.source_words.proofs.PrintedActions.{action_read}
use Rattle.source_words.proofs.script.law.printed_actions.Goals as goal

pub returns : goal.returns
returns c = λ phase action is indexed bytes. action_read phase action (record { is = is; indexed = indexed; bytes = bytes })
