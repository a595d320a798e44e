-- The header of a script (own): the magic, the version, the phase, the number of blocks and a zero.
use Rattle.std.specs.Prelude.{ℕ, ◌+◌, Bool, ◌&&◌, ◌||◌, List, [], ◌∷◌, length, Option, Some, None, Result, Ok, Err, nat_lt, ◌==◌, if◌then◌else◌}
use Rattle.pi_base.specs.{declared.phase.Phase.Phase, declared.phase.Phase.TheVariants.Pei, declared.phase.Phase.TheVariants.Dxe}
use Rattle.act_code.specs.{declared.header.Header.Header, declared.fault.ActFault.ActFault, declared.fault.ActCause.ActCause}
use Rattle.act_code.specs.declared.fault.ActCause.TheVariants as cause

-- the byte of a phase
abbrev pub phase_byte : Phase → ℕ
phase_byte Pei = 1
phase_byte Dxe = 2

-- the header of a script of a phase with so many blocks
abbrev pub header_bytes : Phase → ℕ → List ℕ
header_bytes phase blocks = 0x50 ∷ (0x49 ∷ (0x41 ∷ (0x53 ∷ (1 ∷ (phase_byte phase ∷ (blocks ∷ (0 ∷ [])))))))

abbrev pub phase_of : ℕ → Option Phase
phase_of n = if n == 1 then Some Pei else if n == 2 then Some Dxe else None

abbrev pub fault_of : ℕ → ActCause → ActFault
fault_of at c = record { at = at; cause = c }

abbrev pub counted_by : ℕ → ℕ → ℕ → Option Phase → Result Header ActFault
counted_by size blocks last None = Err (fault_of 5 cause.Phase)
counted_by size blocks last (Some phase) =
    if nat_lt blocks 1 || nat_lt 64 blocks || nat_lt 65536 size then Err (fault_of 6 cause.Count)
    else if last == 0 then Ok (record { size = size; phase = phase; blocks = blocks })
    else Err (fault_of 7 cause.Count)

-- the first fault of the fields after the magic, in order, or what they say
abbrev pub fields_of : ℕ → ℕ → ℕ → ℕ → ℕ → Result Header ActFault
fields_of size version phase blocks last = if version == 1 then counted_by size blocks last (phase_of phase) else Err (fault_of 4 cause.Version)

abbrev pub is_magic : ℕ → ℕ → ℕ → ℕ → Bool
is_magic a b c d = (a == 0x50) && (b == 0x49) && (c == 0x41) && (d == 0x53)

-- the header of a script, or its first fault
abbrev pub header_at : List ℕ → Result Header ActFault
header_at (a ∷ (b ∷ (c ∷ (d ∷ (version ∷ (phase ∷ (blocks ∷ (last ∷ rest)))))))) =
    if is_magic a b c d then fields_of (8 + length rest) version phase blocks last else Err (fault_of 0 cause.Magic)
header_at _ = Err (fault_of 0 cause.Magic)
