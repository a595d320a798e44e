-- Dependency expressions and their spellings (PI 1.8, volume 1, "Dependency Expression Grammar", and volume 2 for BEFORE, AFTER and SOR).
use Rattle.std.specs.Prelude.{◌≡◌, ℕ, ◌≤◌, Bool, true, false, ⊤, List, [], ◌∷◌, ◌++◌, length, map, ◌⊎◌, flat_map}
use Rattle.std.specs.List.{AllByRecursion}
use Rattle.pi_base.specs.{declared.phase.Phase.Phase, declared.phase.Phase.TheVariants.Pei, declared.phase.Phase.TheVariants.Dxe}
use Rattle.depex_code.specs.{declared.instruction.Instruction.Instruction, declared.depex.Depex.Depex, declared.fault.DepexFault.DepexFault}
use Rattle.depex_code.specs.declared.instruction.Instruction.TheVariants as instruction
use Rattle.depex_code.specs.declared.depex.Depex.TheVariants as depex
use Rattle.depex_code.specs.{declared.fault.DepexFault.TheVariants.Malformed, declared.fault.DepexFault.TheVariants.Memory, Tree.postfix}
use Rattle.depex_code.specs.Instruction.{instruction_bytes, IsWhole}
use Rattle.pi_base.specs.Lists.{Begins}

-- SOR before the tree, if the expression has it
abbrev pub sor_front : Bool → List Instruction
sor_front true = instruction.Sor ∷ []
sor_front false = []

-- the opcodes of an expression, in order
abbrev pub instructions : Depex → List Instruction
instructions (depex.Before guid) = instruction.Before guid ∷ (instruction.End ∷ [])
instructions (depex.After guid) = instruction.After guid ∷ (instruction.End ∷ [])
instructions (depex.Expr sor node) = sor_front sor ++ (map instruction.Of (postfix node) ++ instruction.End ∷ [])

-- in PEI an expression is a tree without SOR
abbrev pub IsOfPhase : Phase → Depex → Type 0
IsOfPhase Pei (depex.Before guid) = ⊥
IsOfPhase Pei (depex.After guid) = ⊥
IsOfPhase Pei (depex.Expr sor node) = sor ≡ false
IsOfPhase Dxe expression = ⊤

-- the bytes of opcodes
abbrev pub bytes_of : List Instruction → List ℕ
bytes_of = flat_map instruction_bytes

-- an expression of the phase is at the front of the bytes: its one spelling, of at most 1,024 opcodes
pub record Reads (phase : Phase) (bytes : List ℕ) (expression : Depex) : Type 0 where
  pub suits : IsOfPhase phase expression
  pub guids : AllByRecursion IsWhole (instructions expression)
  pub here : Begins bytes (bytes_of (instructions expression))
  pub few : length (instructions expression) ≤ 1024

-- an expression of the phase has these opcodes in front, and others after them
abbrev pub GoesOn : Phase → List Instruction → List Instruction → Type 0
GoesOn phase front behind =
    (expression : Depex) × IsOfPhase phase expression × AllByRecursion IsWhole (instructions expression) × (instructions expression ≡ front ++ behind)

-- Some opcodes begin an expression and are at the front of the bytes. The bytes continue with no opcode that still begins an expression, or there are already
-- 1,024. The place is the one after them.
pub record IsMalformed (phase : Phase) (bytes : List ℕ) (at : ℕ) : Type 0 where
  pub front : List Instruction
  pub more : (next : Instruction) × (behind : List Instruction) × GoesOn phase front (next ∷ behind)
  pub here : Begins bytes (bytes_of front)
  pub few : length front ≤ 1024
  pub stops : ((next : Instruction) (behind : List Instruction) → GoesOn phase front (next ∷ behind) → Begins bytes (bytes_of (front ++ next ∷ [])) → ⊥) ⊎ (length front ≡ 1024)
  pub place : at ≡ length (bytes_of front)

-- why nothing was read: the expression is malformed, or memory ran out
abbrev pub IsRefused : Phase → List ℕ → DepexFault → Type 0
IsRefused phase bytes (Malformed at) = IsMalformed phase bytes at
IsRefused phase bytes Memory = ⊤
