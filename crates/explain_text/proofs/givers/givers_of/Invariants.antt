use Rattle.std.proofs.Common.{◌≤◌, drop, length}
use Rattle.explain_text.specs.Givers.{AreGivers}
use Rattle.explain_text.proofs.givers.givers_of.Given as goal

-- those of the modules from a number on
abbrev pub invariant-modules : goal.invariant-modules
invariant-modules l = (l.number ≤ length l.modules) × AreGivers l.phase l.number (drop l.number l.modules) l.givers

abbrev pub decreases-modules : goal.decreases-modules
decreases-modules l = l.number
