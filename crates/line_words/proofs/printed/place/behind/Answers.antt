use Rattle.line_words.proofs.Places.{stripped}
use Rattle.line_words.proofs.printed.place.behind.Goals as goal

pub returns : goal.returns
returns c = stripped c.args.bytes.now c.args.front.now c.strip_prefix.result c.strip_prefix.ensures.cases
