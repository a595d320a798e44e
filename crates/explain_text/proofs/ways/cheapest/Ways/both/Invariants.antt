use Rattle.std.proofs.Common.{◌≡◌, [], length}
use Rattle.explain_text.specs.{KeptWays.kept, Ways.crossed}
use Rattle.explain_text.proofs.ways.cheapest.Ways.both.Given as goal

abbrev pub invariant-firsts : goal.invariant-firsts
invariant-firsts l = kept l.ways (crossed l.rest l.second) ≡ kept [] (crossed l.first l.second)

abbrev pub decreases-firsts : goal.decreases-firsts
decreases-firsts l = length l.rest
