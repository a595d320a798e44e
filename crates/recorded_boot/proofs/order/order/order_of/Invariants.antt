use Rattle.std.proofs.Common.{◌≡◌, ◌+◌, ◌++◌, drop}
use Rattle.recorded_boot.specs.Order.{asked_from}
use Rattle.recorded_boot.proofs.order.order.order_of.Given as goal

-- what the lines so far ask for, and what those to come do, make the whole
abbrev pub invariant-lines : goal.invariant-lines
invariant-lines l = (l.number ≡ 1 + l.line-index) × (l.starts ++ asked_from l.number (drop l.line-index l.lines) ≡ asked_from 1 l.lines)
