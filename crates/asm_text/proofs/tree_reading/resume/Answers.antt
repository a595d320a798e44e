use Rattle.asm_text.specs.declared.token.Waiting.TheVariants.{Negation, First, Conjunction, Disjunction}
use Rattle.asm_text.proofs.Paths.{resumed_by}
use Rattle.asm_text.proofs.tree_reading.resume.Goals as goal

pub returns-in-Negation-clause-goes : goal.returns-in-Negation-clause-goes
returns-in-Negation-clause-goes c =
    rw (resumed_by c.args.text.now c.args.code.now c.args.waiting.now c.pop.new.self c.in-Some.what Negation c.in-Some.ensures.last c.in-Negation.is) (c.ended_by.ensures.goes c.pop.new.self)

pub returns-in-First-clause-goes : goal.returns-in-First-clause-goes
returns-in-First-clause-goes c =
    rw (resumed_by c.args.text.now c.args.code.now c.args.waiting.now c.pop.new.self c.in-Some.what First c.in-Some.ensures.last c.in-First.is) (c.open.ensures.goes c.args.code.now)

pub returns-in-Conjunction-clause-goes : goal.returns-in-Conjunction-clause-goes
returns-in-Conjunction-clause-goes c =
    rw (resumed_by c.args.text.now c.args.code.now c.args.waiting.now c.pop.new.self c.in-Some.what Conjunction c.in-Some.ensures.last c.in-Conjunction.is) (c.close.ensures.goes c.pop.new.self)

pub returns-in-Disjunction-clause-goes : goal.returns-in-Disjunction-clause-goes
returns-in-Disjunction-clause-goes c =
    rw (resumed_by c.args.text.now c.args.code.now c.args.waiting.now c.pop.new.self c.in-Some.what Disjunction c.in-Some.ensures.last c.in-Disjunction.is) (c.close-in-Disjunction.ensures.goes c.pop.new.self)
