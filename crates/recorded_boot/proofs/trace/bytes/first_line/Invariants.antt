use Rattle.std.proofs.Common.{take}
use Rattle.recorded_boot.specs.Lines.{Lacks}
use Rattle.recorded_boot.proofs.trace.bytes.first_line.Given as goal

abbrev pub invariant-search : goal.invariant-search
invariant-search l = Lacks (take l.place l.bytes)
