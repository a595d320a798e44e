use Rattle.std.proofs.Common.{◌≡◌, ℕ, length, false, filter}
use Rattle.std.specs.List.{list_any}
use Rattle.pi_base.specs.Lists.{Each, numbers}
use Rattle.mp_core.specs.{Calls.IsOp, Fair.AreOrderly, Machine.IsMachine, Schedule.is_busy}
use Rattle.mp_core.specs.Past.{Past, enabled_aps, is_enabled_ap, started}
use Rattle.mp_core.proofs.machine.Machine.start_all.Given as goal

abbrev pub invariant-loop-p : goal.invariant-loop-p
invariant-loop-p l = record {
  count : length l.self.processors.items ≡ length l.fn.self.processors.items;
  stands : (processors cells : ℕ) (past : Past) → AreOrderly processors past.steps → IsMachine processors cells past l.fn.self → Each (IsOp cells) l.job
      → list_any (λ p. is_busy p past.steps) (enabled_aps processors past) ≡ false
      → IsMachine processors cells (started (filter (is_enabled_ap past) (numbers 0 l.p)) l.job past) l.self;
}
