-- What a script of either phase receives of the bytes at the address in a register.
-- PI 1.8, volume 1, "PEI Services"; the action is own.
use Rattle.std.specs.Prelude.{ℕ, List, Option, Some, None}
use Rattle.pi_base.specs.declared.word.Word.{Word}
use Rattle.pi_base.specs.declared.word.Word.TheVariants.{Success, InvalidParameter, NotFound}
use Rattle.boot_model.specs.{declared.frame.Register.Register, Registers.number_in}
use Rattle.boot_model.specs.declared.line.Extra.TheVariants as X
use Rattle.store_model.specs.{StoreState.StoreState, MemoryReading.bytes_at}
use Rattle.phase_parts.specs.declared.reading.Answer.{Answer}

abbrev pub refusal : Word → Answer
refusal status = record { status = status; extra = X.Nothing }

abbrev pub told_bytes : Option (List ℕ) → Answer
told_bytes None = refusal NotFound
told_bytes (Some bytes) = record { status = Success; extra = X.Bytes (record { items = bytes }) }

abbrev pub told_at : StoreState → ℕ → Option ℕ → Answer
told_at s n None = refusal InvalidParameter
told_at s n (Some at) = told_bytes (bytes_at s at n)

abbrev pub peeked : StoreState → List Register → ℕ → ℕ → Answer
peeked s registers v n = told_at s n (number_in registers v)
