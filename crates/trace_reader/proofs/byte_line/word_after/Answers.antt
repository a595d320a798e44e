use Rattle.trace_reader.proofs.Splits.{after_space}
use Rattle.trace_reader.proofs.byte_line.word_after.Goals as goal

pub returns-in-Some : goal.returns-in-Some
returns-in-Some c = after_space c.args.line.now c.args.keyword.now c.in-Some.rest.now c.behind-in-Some.result c.in-Some.ensures c.behind-in-Some.ensures
