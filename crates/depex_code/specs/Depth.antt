-- How many values a tree's opcodes leave, and which.
use Rattle.std.specs.Prelude.{ℕ, ◌+◌, ◌-◌, Bool, true, false, not, ◌&&◌, ◌||◌, List, [], ◌∷◌, Option, Some, None, nat_lt, if◌then◌else◌}
use Rattle.pi_base.specs.declared.guid.Guid.{Guid}
use Rattle.depex_code.specs.declared.opcode.Opcode.{Opcode}
use Rattle.depex_code.specs.declared.opcode.Opcode.TheVariants.{Push, And, Or, Not, True, False}

-- how many values there are after an opcode, if its operands are there
abbrev pub depth_after : Opcode → ℕ → Option ℕ
depth_after True depth = Some (depth + 1)
depth_after False depth = Some (depth + 1)
depth_after (Push guid) depth = Some (depth + 1)
depth_after Not depth = if nat_lt depth 1 then None else Some depth
depth_after And depth = if nat_lt depth 2 then None else Some (depth - 1)
depth_after Or depth = if nat_lt depth 2 then None else Some (depth - 1)

-- the values after an opcode, the last one first
abbrev pub values_after : (Guid → Bool) → Opcode → List Bool → Option (List Bool)
values_after has True values = Some (true ∷ values)
values_after has False values = Some (false ∷ values)
values_after has (Push guid) values = Some (has guid ∷ values)
values_after has Not (value ∷ values) = Some (not value ∷ values)
values_after has Not [] = None
values_after has And (second ∷ (first ∷ values)) = Some ((first && second) ∷ values)
values_after has And (second ∷ []) = None
values_after has And [] = None
values_after has Or (second ∷ (first ∷ values)) = Some ((first || second) ∷ values)
values_after has Or (second ∷ []) = None
values_after has Or [] = None
