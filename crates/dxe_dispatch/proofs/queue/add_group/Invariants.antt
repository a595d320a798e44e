use Rattle.std.proofs.Common.{◌≡◌, ◌++◌, length, reverse}
use Rattle.dxe_dispatch.proofs.queue.add_group.Given as goal

-- those that are left complete the pass
abbrev pub invariant-group : goal.invariant-group
invariant-group l = l.pass ++ reverse l.group ≡ l.fn.pass ++ reverse l.fn.group

abbrev pub decreases-group : goal.decreases-group
decreases-group l = length l.group
