use Rattle.boot_model.specs.Text.{keyword}
use Rattle.trace_reader.proofs.ByteLines.{body_is}
use Rattle.trace_reader.proofs.byte_line.hob_line.Goals as goal

pub returns-in-Ok-None-clause-none : goal.returns-in-Ok-None-clause-none
unfolding keyword
returns-in-Ok-None-clause-none c = λ none kind body is.
    (rw c.in-Ok-None.field-0-is at c.in-Ok-None.ensures) body (is.0.1, body_is c.args.line.now c.in-Some.word.now body c.in-Some.kind kind c.in-Some.ensures.0 is.0.0 c.in-Some.ensures.1 is.1)
