use Rattle.std.proofs.Common.{◌≡◌, ◌++◌, length}
use Rattle.explain_text.specs.Change.{all_there}
use Rattle.explain_text.proofs.ways.change.all_there.Given as goal

abbrev pub invariant-guids : goal.invariant-guids
invariant-guids g l = l.literals ++ all_there (g.G.GuidSet.has_guid l.set) l.rest ≡ all_there (g.G.GuidSet.has_guid l.set) l.guids

abbrev pub decreases-guids : goal.decreases-guids
decreases-guids g l = length l.rest
