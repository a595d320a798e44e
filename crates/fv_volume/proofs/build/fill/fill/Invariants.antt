use Rattle.std.proofs.Common.{◌≡◌, ◌++◌, replicate}
use Rattle.fv_volume.proofs.build.fill.fill.Given as goal

-- what is written and what is left to write
abbrev pub invariant-chunks : goal.invariant-chunks
invariant-chunks l = l.out ++ replicate l.left l.byte ≡ l.fn.out ++ replicate l.count l.byte

abbrev pub decreases-chunks : goal.decreases-chunks
decreases-chunks l = l.left
