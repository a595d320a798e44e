use Rattle.boot_trace.proofs.FixedWords.{end_text_each, end_text_plain}
use Rattle.boot_trace.proofs.fixed_word.RunEndFixedWord.all.Goals as goal

pub returns-clause-each : goal.returns-clause-each
returns-clause-each c = end_text_each

pub returns-clause-plain : goal.returns-clause-plain
returns-clause-plain c = end_text_plain
