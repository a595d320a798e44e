use Rattle.std.proofs.Common.{◌≡◌, ℕ, false, ◌&&◌}
use Rattle.std.specs.List.{list_any}
use Rattle.pi_base.specs.Lists.{numbers}
use Rattle.mp_core.specs.{Fair.AreOrderly, Machine.IsMachine, Past.Past, Past.is_enabled_ap, Schedule.is_busy}
use Rattle.mp_core.proofs.machine.Machine.has_busy_ap.Given as goal

abbrev pub invariant-loop-p : goal.invariant-loop-p
invariant-loop-p l =
    (processors cells : ℕ) (past : Past) → AreOrderly processors past.steps → IsMachine processors cells past l.self → list_any (λ p. is_enabled_ap past p && is_busy p past.steps) (numbers 0 l.p) ≡ false
