use Rattle.std.proofs.Common.{◌≡◌, ◌++◌, ◌≤◌, map}
use Rattle.fv_volume.specs.Generated.{module_of, downward, generated_files}
use Rattle.fv_volume.proofs.build.generated.add_modules.Given as goal

-- the modules so far, and those that are left
abbrev pub invariant-loop-left : goal.invariant-loop-left
invariant-loop-left l = record { rest : l.files ++ map (module_of l.n) (downward l.left) ≡ l.fn.files ++ generated_files l.n; below : l.left ≤ l.n }

abbrev pub decreases-loop-left : goal.decreases-loop-left
decreases-loop-left l = l.left
