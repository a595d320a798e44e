-- The past that the code's machine stands for.
-- Own.
use Rattle.std.specs.Prelude.{◌≡◌, ℕ, ◌<◌, List, length, map, not, slice_index_or, false}
use Rattle.std.specs.List.{list_any}
use Rattle.pi_base.specs.Lists.{Each}
use Rattle.mp_core.specs.{declared.op.Op.Op, declared.machine.Machine.Machine, declared.reply.MpOutcome.MpOutcome}
use Rattle.mp_core.specs.{declared.processor.Processor.Processor, Calls.IsOp, Fair.AreOrderly}
use Rattle.mp_core.specs.Past.{Past, is_empty, enabled_aps, started}
use Rattle.mp_core.specs.Schedule.{is_busy, undone, done, ops_of, puts, cells_after}

-- a processor is the one with this number of a past
pub record IsProcessor (cells : ℕ) (past : Past) (p : ℕ) (x : Processor) : Type 0 where
  pub enabled : x.enabled ≡ past.enabled p
  pub rest : x.rest.now ≡ ops_of p (undone past.steps)
  pub record_is : x.record ≡ puts p (done past.steps)
  pub in_range : Each (IsOp cells) x.rest.now

-- a machine stands for a past
pub record IsMachine (processors cells : ℕ) (past : Past) (m : Machine) : Type 0 where
  pub bsp : m.bsp ≡ past.bsp
  pub bsp_below : m.bsp < processors
  pub count : length m.processors.items ≡ processors
  pub each : (p : ℕ) (x : Processor) → p < processors → IsProcessor cells past p (slice_index_or m.processors.items p x)
  pub cells_are : m.cells ≡ cells_after cells past.steps

-- a machine stands for some past, and its numbers of processors and cells have what is needed
abbrev pub Stands : Machine → (ℕ → ℕ → Type 0) → Type 0
Stands m Needs = (processors : ℕ) × (cells : ℕ) × (past : Past) × IsMachine processors cells past m × Needs processors cells

-- an answer is what a definition gives for each past that the machine stands for
abbrev pub Tells : {A : Type 0} → Machine → (ℕ → Past → A) → A → Type 0
Tells m answer result =
    (processors cells : ℕ) (past : Past) → AreOrderly processors past.steps → IsMachine processors cells past m
    → result ≡ answer processors past

-- the machine stands for what a definition makes of each past that it stood for, if a fact holds of its numbers of processors and cells
abbrev pub Becomes : Machine → (ℕ → ℕ → Type 0) → (ℕ → Past → Past) → Machine → Type 0
Becomes old Needs change new =
    (processors cells : ℕ) (past : Past) → AreOrderly processors past.steps → IsMachine processors cells past old → Needs processors cells
    → IsMachine processors cells (change processors past) new

-- the enabled APs have started a job, if none of them was busy
abbrev pub StartsAll : Machine → List Op → Machine → Type 0
StartsAll old job new =
    (processors cells : ℕ) (past : Past) → AreOrderly processors past.steps → IsMachine processors cells past old → Each (IsOp cells) job
    → list_any (λ p. is_busy p past.steps) (enabled_aps processors past) ≡ false
    → IsMachine processors cells (started (enabled_aps processors past) job past) new

-- an outcome has the machine's cells, and of each processor the record and whether it is busy
pub record IsLeft (m : Machine) (outcome : MpOutcome) : Type 0 where
  pub cells : outcome.cells ≡ m.cells
  pub records : outcome.records ≡ map (λ x. x.record) m.processors.items
  pub busy : outcome.busy ≡ map (λ x. not (is_empty x.rest.now)) m.processors.items
