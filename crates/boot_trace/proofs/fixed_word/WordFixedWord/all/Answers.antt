use Rattle.boot_trace.proofs.FixedWords.{word_text_each, word_text_plain}
use Rattle.boot_trace.proofs.fixed_word.WordFixedWord.all.Goals as goal

pub returns-clause-each : goal.returns-clause-each
returns-clause-each c = word_text_each

pub returns-clause-plain : goal.returns-clause-plain
returns-clause-plain c = word_text_plain
