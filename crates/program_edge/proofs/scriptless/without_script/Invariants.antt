use Rattle.std.proofs.Common.{length}
use Rattle.program_edge.proofs.Noting.{AreNotedUpTo}
use Rattle.program_edge.proofs.scriptless.without_script.Given as goal

abbrev pub invariant-modules : goal.invariant-modules
invariant-modules l = AreNotedUpTo l.phase l.modules l.rest l.names

abbrev pub decreases-modules : goal.decreases-modules
decreases-modules l = length l.rest
