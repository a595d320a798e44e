use Rattle.std.proofs.lemmas.Result.{err_from_is_err_and}
use Rattle.source_words.specs.Tokens.{tokens}
use Rattle.source_words.proofs.depex.tree.code_of.Goals as goal

pub returns-in_err-take : goal.returns-in_err-take
returns-in_err-take c =
    let p = err_from_is_err_and c.from_residual.result c.from_residual.ensures.1 in
    rw (p.1, p.2, c.words.invariant.cause, c.in-Some.ensures.found) (c.in_err-take.ensures (tokens c.in-Some.behind.now))
