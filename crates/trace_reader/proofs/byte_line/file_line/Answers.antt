use Rattle.std.proofs.Common.{◌∙◌, codes}
use Rattle.boot_model.specs.Text.{keyword}
use Rattle.trace_reader.proofs.ByteLines.{one_word}
use Rattle.trace_reader.proofs.byte_line.file_line.Goals as goal

pub returns-clause-none : goal.returns-clause-none
unfolding keyword
returns-clause-none c = λ none. record {
  file = λ name is. c.in_default.ensures name (is.1 ∙ one_word (codes "refused file") name);
  long = λ name is. c.in_default-word_after.ensures name (is.1 ∙ one_word (codes "refused long") name);
}
