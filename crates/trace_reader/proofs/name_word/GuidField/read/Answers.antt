use Rattle.line_words.proofs.PlainWords.{guid_plain}
use Rattle.trace_reader.proofs.name_word.GuidField.read.Goals as goal

pub returns-clause-plain : goal.returns-clause-plain
returns-clause-plain c = λ value fits. guid_plain value
