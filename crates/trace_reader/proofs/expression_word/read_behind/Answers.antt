use Rattle.trace_reader.proofs.Splits.{found_after}
use Rattle.trace_reader.proofs.expression_word.read_behind.Goals as goal

pub returns-in-Some : goal.returns-in-Some
returns-in-Some g c = found_after g.F.Field.fits g.F.Field.shows c.args.word.now c.args.front.now c.in-Some.rest.now c.read.result c.in-Some.ensures c.read.ensures.found
