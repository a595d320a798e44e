use Rattle.boot_trace.proofs.FixedWords.{reason_text_each, reason_text_plain}
use Rattle.boot_trace.proofs.fixed_word.ReasonFixedWord.all.Goals as goal

pub returns-clause-each : goal.returns-clause-each
returns-clause-each c = reason_text_each

pub returns-clause-plain : goal.returns-clause-plain
returns-clause-plain c = reason_text_plain
