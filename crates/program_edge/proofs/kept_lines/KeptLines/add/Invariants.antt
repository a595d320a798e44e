use Rattle.std.proofs.Common.{length}
use Rattle.program_edge.proofs.kept_lines.KeptLines.add.Given as goal

abbrev pub decreases-lines : goal.decreases-lines
decreases-lines l = length l.rest
