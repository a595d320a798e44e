-- The processor that the code's stands for.
-- Own.
use Rattle.std.specs.Prelude.{◌≡◌, List, [], ◌∷◌, true, Option, Some, None, ℕ, slice_set, slice_index_or}
use Rattle.mp_core.specs.{declared.op.Op.Op, declared.processor.Processor.Processor}

abbrev pub IsNew : Processor → Type 0
IsNew p = (p.enabled ≡ true) × (p.rest.now ≡ []) × (p.record ≡ [])

-- all but the job is as it was
abbrev pub Keeps : Processor → Processor → Type 0
Keeps old new = (new.enabled ≡ old.enabled) × (new.record ≡ old.record)

-- the next operation of the job, if there is one, is taken off
abbrev pub Does : Processor → Option Op → Processor → Type 0
Does old (Some op) new = (old.rest.now ≡ op ∷ new.rest.now) × Keeps old new
Does old None new = (old.rest.now ≡ []) × (new.rest.now ≡ []) × Keeps old new

-- the processor with a number is changed, and each other one is as it was
abbrev pub IsChanged : List Processor → ℕ → (Processor → Processor) → List Processor → Type 0
IsChanged old p change new = (x : Processor) → new ≡ slice_set old p (change (slice_index_or old p x))
