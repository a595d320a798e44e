use Rattle.std.proofs.Common.{length}
use Rattle.gcd_map.proofs.Stretches.{Carries}
use Rattle.gcd_map.proofs.search.each_meets.Given as goal

abbrev pub invariant-tests : goal.invariant-tests
invariant-tests l = Carries l.need l.end l.ranges l.rest

abbrev pub decreases-tests : goal.decreases-tests
decreases-tests l = length l.rest
