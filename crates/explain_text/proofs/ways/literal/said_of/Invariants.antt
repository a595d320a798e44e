use Rattle.std.proofs.Common.{◌≡◌, length}
use Rattle.explain_text.specs.Ways.{said_of}
use Rattle.explain_text.proofs.ways.literal.said_of.Given as goal

abbrev pub invariant-literals : goal.invariant-literals
invariant-literals l = said_of l.rest l.guid ≡ said_of l.literals l.guid

abbrev pub decreases-literals : goal.decreases-literals
decreases-literals l = length l.rest
