use Rattle.line_words.specs.Words.{words}
use Rattle.program_edge.proofs.plan_mistake.front_of.Goals as goal

pub returns-in_default-clause-none : goal.returns-in_default-clause-none
returns-in_default-clause-none c = λ none _. c.first.ensures.none none (words c.args.line.now) c.shape_of.ensures
