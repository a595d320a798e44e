use Rattle.std.proofs.Common.{◌≡◌, length}
use Rattle.explain_text.specs.KeptWays.{kept}
use Rattle.explain_text.proofs.ways.cheapest.Ways.put_all.Given as goal

abbrev pub invariant-ways : goal.invariant-ways
invariant-ways l = kept l.self l.rest ≡ kept l.fn.self l.ways

abbrev pub decreases-ways : goal.decreases-ways
decreases-ways l = length l.rest
