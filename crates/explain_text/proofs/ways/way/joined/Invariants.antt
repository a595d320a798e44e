use Rattle.std.proofs.Common.{◌≡◌, length}
use Rattle.explain_text.specs.Ways.{joined}
use Rattle.explain_text.proofs.ways.way.joined.Given as goal

-- those so far with those that are left are the whole
abbrev pub invariant-literals : goal.invariant-literals
invariant-literals l = joined l.literals l.rest ≡ joined l.first l.second

abbrev pub decreases-literals : goal.decreases-literals
decreases-literals l = length l.rest
