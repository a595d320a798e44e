-- The registers after what an action writes.
-- Own; the profile of the action scripts.
use Rattle.std.specs.Prelude.{List, slice_set}
use Rattle.boot_model.specs.declared.frame.Register.{Register}
use Rattle.phase_parts.specs.declared.registers.Writes.{Writes}
use Rattle.phase_parts.specs.declared.registers.Writes.TheVariants.{Nothing, One, Two}

-- a register that is not there is not written
abbrev pub written : List Register → Writes → List Register
written registers Nothing = registers
written registers (One one) = slice_set registers one.r one.register
written registers (Two one other) = slice_set (slice_set registers one.r one.register) other.r other.register
