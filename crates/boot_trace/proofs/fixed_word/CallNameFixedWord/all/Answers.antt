use Rattle.boot_trace.proofs.FixedWords.{call_text_each, call_text_plain}
use Rattle.boot_trace.proofs.fixed_word.CallNameFixedWord.all.Goals as goal

pub returns-clause-each : goal.returns-clause-each
returns-clause-each c = call_text_each

pub returns-clause-plain : goal.returns-clause-plain
returns-clause-plain c = call_text_plain
