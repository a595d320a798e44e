use Rattle.explain_text.proofs.{WayChange.would_makes_it_hold, WayNone.holds_as_it_is}
use Rattle.explain_text.proofs.ways.change_laws.would_makes_it_hold.Goals as goal

pub returns-clause-enough : goal.returns-clause-enough
returns-clause-enough c = would_makes_it_hold

pub returns-clause-none : goal.returns-clause-none
returns-clause-none c = holds_as_it_is
