use Rattle.source_words.proofs.depex.expression.read.Goals as goal

pub returns-in_default : goal.returns-in_default
returns-in_default c = rw (c.in_default.ensures.none c.args.phase) (c.plain.ensures c.args.phase)
