use Rattle.std.proofs.Common.{◌≡◌, ◌+◌, length}
use Rattle.explain_text.specs.KeptWays.{place_of}
use Rattle.explain_text.proofs.ways.cheapest.place_of.Given as goal

abbrev pub invariant-ways : goal.invariant-ways
invariant-ways l = (l.at + place_of l.cost l.rest ≡ place_of l.cost l.ways) × (l.at + length l.rest ≡ length l.ways)

abbrev pub decreases-ways : goal.decreases-ways
decreases-ways l = length l.rest
