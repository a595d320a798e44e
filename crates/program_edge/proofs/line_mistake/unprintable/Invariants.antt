use Rattle.std.proofs.Common.{length}
use Rattle.program_edge.proofs.line_mistake.unprintable.Given as goal

abbrev pub decreases-search : goal.decreases-search
decreases-search l = length l.rest
