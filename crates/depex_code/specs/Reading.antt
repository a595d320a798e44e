-- Reading from left to right: one opcode, and a tree up to its END.
use Rattle.std.specs.Prelude.{◌≡◌, ◌≢◌, ℕ, ◌+◌, ◌-◌, ◌≤◌, Bool, true, false, Result, Ok, Err, ◌<◌, ⊤, List, [], ◌∷◌, ◌++◌, length, drop, map, Option, Some, None, option_map, nat_lt, ◌==◌, if◌then◌else◌, ◌⊎◌}
use Rattle.std.specs.List.{AllByRecursion}
use Rattle.pi_base.specs.{declared.guid.Guid.Guid, Guids.guid_at, Lists.Begins}
use Rattle.depex_code.specs.{declared.opcode.Opcode.Opcode, declared.instruction.Instruction.Instruction, declared.depex.Depex.Depex}
use Rattle.depex_code.specs.declared.opcode.Opcode.TheVariants as opcode
use Rattle.depex_code.specs.declared.instruction.Instruction.TheVariants as instruction
use Rattle.depex_code.specs.{declared.depex.Depex.TheVariants.Expr, declared.fault.DepexFault.DepexFault}
use Rattle.depex_code.specs.declared.fault.DepexFault.TheVariants.{Malformed, Memory}
use Rattle.depex_code.specs.{declared.reading.Turn.Turn, Depth.depth_after, Tree.DepexTree, Tree.postfix}
use Rattle.depex_code.specs.declared.reading.Turn.TheVariants as turn
use Rattle.depex_code.specs.{TreeCode.built, TreeCode.stack_after, Instruction.IsWhole, Expression.bytes_of}

-- the GUID at the front, and the bytes after it
abbrev pub guid_front : List ℕ → Option (Guid × List ℕ)
guid_front bytes = if nat_lt (length bytes) 16 then None else Some (guid_at bytes 0, drop 16 bytes)

-- an opcode that has a GUID
abbrev pub with_guid : (Guid → Instruction) → List ℕ → Option (Instruction × List ℕ)
with_guid made bytes = option_map (λ x. (made x.0, x.1)) (guid_front bytes)

-- the opcode at the front, and the bytes after it
unfoldable pub instruction_at : List ℕ → Option (Instruction × List ℕ)
instruction_at [] = None
instruction_at (code ∷ rest) =
    if code == 0 then with_guid instruction.Before rest
    else if code == 1 then with_guid instruction.After rest
    else if code == 2 then with_guid (λ guid. instruction.Of (opcode.Push guid)) rest
    else if code == 3 then Some (instruction.Of opcode.And, rest)
    else if code == 4 then Some (instruction.Of opcode.Or, rest)
    else if code == 5 then Some (instruction.Of opcode.Not, rest)
    else if code == 6 then Some (instruction.Of opcode.True, rest)
    else if code == 7 then Some (instruction.Of opcode.False, rest)
    else if code == 8 then Some (instruction.End, rest)
    else if code == 9 then Some (instruction.Sor, rest)
    else None

-- the next opcode cannot continue a tree with this stack
abbrev pub Blocks : List DepexTree → Option (Instruction × List ℕ) → Type 0
Blocks stack None = ⊤
Blocks stack (Some (instruction.Of code, rest)) = built code stack ≡ None
Blocks stack (Some (instruction.End, rest)) = length stack ≢ 1
Blocks stack (Some (instruction.Before guid, rest)) = ⊤
Blocks stack (Some (instruction.After guid, rest)) = ⊤
Blocks stack (Some (instruction.Sor, rest)) = ⊤

-- the next opcode cannot continue a tree that has left so many values
abbrev pub BlocksAt : ℕ → Option (Instruction × List ℕ) → Type 0
BlocksAt depth None = ⊤
BlocksAt depth (Some (instruction.Of code, rest)) = depth_after code depth ≡ None
BlocksAt depth (Some (instruction.End, rest)) = depth ≢ 1
BlocksAt depth (Some (instruction.Before guid, rest)) = ⊤
BlocksAt depth (Some (instruction.After guid, rest)) = ⊤
BlocksAt depth (Some (instruction.Sor, rest)) = ⊤

-- what is next in a tree that has left so many values
abbrev pub Goes : ℕ → Option (Instruction × List ℕ) → Turn → Type 0
Goes depth next (turn.Opcode code after rest) = (next ≡ Some (instruction.Of code, rest.now)) × (depth_after code depth ≡ Some after)
Goes depth next turn.End = ((rest : List ℕ) × (next ≡ Some (instruction.End, rest))) × (depth ≡ 1)
Goes depth next turn.Stuck = BlocksAt depth next

-- the bytes are the opcodes of a tree and END, fewer opcodes than there is room for, and some rest
abbrev pub IsTreeRead : List ℕ → ℕ → DepexTree → Type 0
IsTreeRead bytes room node = (length (postfix node) < room) × AllByRecursion IsWhole (map instruction.Of (postfix node)) × Begins bytes (bytes_of (map instruction.Of (postfix node) ++ instruction.End ∷ []))

-- the bytes begin with opcodes of a tree, after which no opcode can follow, or there is no room for one
pub record IsStuck (bytes : List ℕ) (from room at : ℕ) : Type 0 where
  pub code : List Opcode
  pub stack : List DepexTree
  pub rest : List ℕ
  pub leads : stack_after code [] ≡ Some stack
  pub guids : AllByRecursion IsWhole (map instruction.Of code)
  pub here : bytes ≡ bytes_of (map instruction.Of code) ++ rest
  pub few : length code ≤ room
  pub stops : Blocks stack (instruction_at rest) ⊎ (length code ≡ room)
  pub place : at ≡ from + length (bytes_of (map instruction.Of code))

abbrev pub IsTreeRefused : List ℕ → ℕ → ℕ → DepexFault → Type 0
IsTreeRefused bytes from room (Malformed at) = IsStuck bytes from room at
IsTreeRefused bytes from room Memory = ⊤

-- an expression of BEFORE or AFTER, which is read if END is next
abbrev pub IsBeside : Depex → List ℕ → List ℕ → Result Depex DepexFault → Type 0
IsBeside depex bytes rest (Ok read) = (read ≡ depex) × ((after : List ℕ) × (instruction_at rest ≡ Some (instruction.End, after)))
IsBeside depex bytes rest (Err fault) = (fault ≡ Malformed (length bytes - length rest)) × ((after : List ℕ) → instruction_at rest ≢ Some (instruction.End, after))

-- the offset of a tree, and the room for its opcodes
abbrev pub from_of : Bool → ℕ
from_of true = 1
from_of false = 0

-- an expression that is a tree, from the tree's first byte on
abbrev pub IsTreeDepex : Bool → List ℕ → Result Depex DepexFault → Type 0
IsTreeDepex sor bytes (Ok read) = (node : DepexTree) × (read ≡ Expr sor node) × IsTreeRead bytes (1024 - from_of sor) node
IsTreeDepex sor bytes (Err fault) = IsTreeRefused bytes (from_of sor) (1024 - from_of sor) fault
