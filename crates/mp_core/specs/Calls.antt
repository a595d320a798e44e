-- Which lists of events there are: the callers are processors, a job is 1 to 64 operations, and its cells are there.
-- Own.
use Rattle.std.specs.Prelude.{ℕ, ◌<◌, ◌≤◌, List, length, ⊤}
use Rattle.pi_base.specs.Lists.{Each}
use Rattle.mp_core.specs.{declared.event.MpEvent.MpEvent, declared.limits.TheConstants.MOST_OPS, declared.op.Op.Op}
use Rattle.mp_core.specs.declared.event.MpEvent.TheVariants.{All, This, Enable, Switch, Who, Turn}
use Rattle.mp_core.specs.declared.op.Op.TheVariants.{Add, Put}

-- how many there may be, from one on
abbrev pub IsCount : ℕ → ℕ → Type 0
IsCount most count = (1 ≤ count) × (count ≤ most)

abbrev pub IsOp : ℕ → Op → Type 0
IsOp cells (Add cell n) = cell < cells
IsOp cells (Put n) = ⊤

abbrev pub IsJob : ℕ → List Op → Type 0
IsJob cells job = IsCount MOST_OPS (length job) × Each (IsOp cells) job

abbrev pub IsEvent : ℕ → ℕ → MpEvent → Type 0
IsEvent processors cells (All by job) = (by < processors) × IsJob cells job
IsEvent processors cells (This by on job) = (by < processors) × IsJob cells job
IsEvent processors cells (Enable by on enabled) = by < processors
IsEvent processors cells (Switch by on enabled) = by < processors
IsEvent processors cells (Who by) = by < processors
IsEvent processors cells (Turn on) = ⊤

abbrev pub AreEvents : ℕ → ℕ → List MpEvent → Type 0
AreEvents processors cells events = Each (IsEvent processors cells) events
