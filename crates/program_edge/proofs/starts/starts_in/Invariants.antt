use Rattle.std.proofs.Common.{◌≤◌, length}
use Rattle.program_edge.proofs.starts.starts_in.Given as goal

abbrev pub invariant-lines : goal.invariant-lines
invariant-lines l = l.starts.scriptless ≤ l.starts.all

abbrev pub decreases-lines : goal.decreases-lines
decreases-lines l = length l.rest
