use Rattle.std.proofs.Common.{◌≡◌, ◌++◌, length}
use Rattle.explain_text.specs.Change.{wanted}
use Rattle.explain_text.proofs.ways.change.wanted.Given as goal

abbrev pub invariant-literals : goal.invariant-literals
invariant-literals l = l.guids ++ wanted l.there l.rest ≡ wanted l.there l.literals

abbrev pub decreases-literals : goal.decreases-literals
decreases-literals l = length l.rest
