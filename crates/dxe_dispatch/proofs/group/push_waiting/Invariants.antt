use Rattle.std.proofs.Common.{◌≡◌, ◌++◌, drop, map, filter}
use Rattle.dxe_dispatch.specs.{declared.group.Item.TheVariants.Group, Queue.waits_at}
use Rattle.dxe_dispatch.proofs.group.push_waiting.Given as goal

-- the items so far, and those that are left, make the whole
abbrev pub invariant-numbers : goal.invariant-numbers
invariant-numbers l = l.stack ++ map Group (filter (waits_at l.waits) (drop l.number-index l.numbers)) ≡ l.fn.stack ++ map Group (filter (waits_at l.waits) l.numbers)
