use Rattle.std.proofs.Common.{length, ◌↔◌}
use Rattle.pi_base.specs.Lists.{Each}
use Rattle.mp_core.specs.Calls.{IsOp}
use Rattle.mp_core.proofs.needs.ops_fit.Given as goal

abbrev pub invariant-ops : goal.invariant-ops
invariant-ops l = Each (IsOp l.cells) l.ops ↔ Each (IsOp l.cells) l.rest

abbrev pub decreases-ops : goal.decreases-ops
decreases-ops l = length l.rest
