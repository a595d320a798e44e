use Rattle.boot_trace.proofs.FixedWords.{image_cause_text_each, image_cause_text_plain}
use Rattle.boot_trace.proofs.fixed_word.ImageCauseFixedWord.all.Goals as goal

pub returns-clause-each : goal.returns-clause-each
returns-clause-each c = image_cause_text_each

pub returns-clause-plain : goal.returns-clause-plain
returns-clause-plain c = image_cause_text_plain
