use Rattle.std.proofs.Common.{◌≡◌, length}
use Rattle.explain_text.specs.{KeptWays.kept, Ways.joined_with}
use Rattle.explain_text.proofs.ways.cheapest.Ways.put_joined.Given as goal

abbrev pub invariant-seconds : goal.invariant-seconds
invariant-seconds l = kept l.self (joined_with l.rest l.first) ≡ kept l.fn.self (joined_with l.seconds l.first)

abbrev pub decreases-seconds : goal.decreases-seconds
decreases-seconds l = length l.rest
