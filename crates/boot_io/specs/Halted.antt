-- What a part of a boot leaves of the sink's count of faults, by its answer.
use Rattle.std.specs.Prelude.{◌≡◌, ℕ, ◌≤◌, Result, Ok, Err}
use Rattle.boot_io.specs.{declared.halt.Halt.Halt, declared.halt.Halt.TheVariants.Sink, declared.halt.Halt.TheVariants.Memory, Faults.Rose}

-- the count rises if a line could not be written, and only then
abbrev pub HaltsAfter : {A : Type 0} → Result A Halt → ℕ → ℕ → Type 0
HaltsAfter (Ok _) before now = now ≡ before
HaltsAfter (Err Sink) before now = (before ≤ now) × Rose before now
HaltsAfter (Err Memory) before now = now ≡ before
