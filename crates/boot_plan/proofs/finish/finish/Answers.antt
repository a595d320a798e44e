use Rattle.std.proofs.{Common.refl, Common.rules, lemmas.Bool.false≢true}
use Rattle.boot_plan.proofs.Finishing.{finished, ranged}
use Rattle.boot_plan.proofs.finish.finish.Goals as goal

pub returns-in-None-clause-plan : goal.returns-in-None-clause-plan
returns-in-None-clause-plan c = λ all k.
    finished c.args.count all c.args.draft c.in-Some-Some-false.temp c.in-Some-Some-false.ram _ k (search rules) (search rules)
    (λ h. absurd (false≢true (c.in-Some-Some-false.ensures.1 h))) (search rules)
    c.span_of.ensures.base c.span_of.ensures.len c.span_of-in-None.ensures.base c.span_of-in-None.ensures.len refl
    c.fuel_of.ensures c.pages_of.ensures

pub returns-in-None-clause-range : goal.returns-in-None-clause-range
returns-in-None-clause-range c =
    ranged c.args.draft c.in-Some-Some-false.temp c.in-Some-Some-false.ram _ c.requires.range (search rules) (search rules)
    (λ h. absurd (false≢true (c.in-Some-Some-false.ensures.1 h))) (search rules)
    c.span_of.ensures.base c.span_of.ensures.len c.span_of-in-None.ensures.base c.span_of-in-None.ensures.len refl
    c.fuel_of.ensures c.pages_of.ensures
