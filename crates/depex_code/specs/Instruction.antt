-- The opcodes of dependency expressions as bytes (PI 1.8, volume 1, "Dependency Expression Instruction Set").
use Rattle.std.specs.Prelude.{◌≡◌, ℕ, ⊤, List, [], ◌∷◌, length}
use Rattle.depex_code.specs.declared.opcode.Opcode.TheVariants as opcode
use Rattle.depex_code.specs.declared.instruction.Instruction.{Instruction}
use Rattle.depex_code.specs.declared.instruction.Instruction.TheVariants as instruction

-- an opcode's byte, and after BEFORE, AFTER and PUSH the bytes of the GUID
abbrev pub instruction_bytes : Instruction → List ℕ
instruction_bytes (instruction.Before guid) = 0 ∷ guid.0
instruction_bytes (instruction.After guid) = 1 ∷ guid.0
instruction_bytes (instruction.Of (opcode.Push guid)) = 2 ∷ guid.0
instruction_bytes (instruction.Of opcode.And) = 3 ∷ []
instruction_bytes (instruction.Of opcode.Or) = 4 ∷ []
instruction_bytes (instruction.Of opcode.Not) = 5 ∷ []
instruction_bytes (instruction.Of opcode.True) = 6 ∷ []
instruction_bytes (instruction.Of opcode.False) = 7 ∷ []
instruction_bytes instruction.End = 8 ∷ []
instruction_bytes instruction.Sor = 9 ∷ []

-- a GUID has sixteen bytes
abbrev pub IsWhole : Instruction → Type 0
IsWhole (instruction.Before guid) = length guid.0 ≡ 16
IsWhole (instruction.After guid) = length guid.0 ≡ 16
IsWhole (instruction.Of (opcode.Push guid)) = length guid.0 ≡ 16
IsWhole (instruction.Of opcode.And) = ⊤
IsWhole (instruction.Of opcode.Or) = ⊤
IsWhole (instruction.Of opcode.Not) = ⊤
IsWhole (instruction.Of opcode.True) = ⊤
IsWhole (instruction.Of opcode.False) = ⊤
IsWhole instruction.End = ⊤
IsWhole instruction.Sor = ⊤
