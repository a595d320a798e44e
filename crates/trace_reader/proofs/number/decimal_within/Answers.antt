use Rattle.std.proofs.Common.{◌≡◌, ◌∙◌, sym, arith}
use Rattle.std.proofs.lemmas.Fmt.{decimal_injective}
use Rattle.trace_reader.proofs.number.decimal_within.Goals as goal

pub returns-in_default : goal.returns-in_default
returns-in_default c = λ n is.
    let same : n ≡ c.in-Some.number = decimal_injective n c.in-Some.number (omega (arith, is.0, c.ranges.most)) c.in-Some.ensures.0 (sym is.1 ∙ c.in-Some.ensures.1) in
    absurd (omega (arith, is.0, c.if-number-most.false, same))
