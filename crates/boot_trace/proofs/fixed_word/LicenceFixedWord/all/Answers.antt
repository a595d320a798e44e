use Rattle.boot_trace.proofs.FixedWords.{licence_text_each, licence_text_plain}
use Rattle.boot_trace.proofs.fixed_word.LicenceFixedWord.all.Goals as goal

pub returns-clause-each : goal.returns-clause-each
returns-clause-each c = licence_text_each

pub returns-clause-plain : goal.returns-clause-plain
returns-clause-plain c = licence_text_plain
