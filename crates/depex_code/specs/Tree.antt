-- The tree of a dependency expression, its opcodes and its truth (PI 1.8, volume 1, "Dependency Expression Instruction Set").
use Rattle.std.specs.Prelude.{Bool, true, false, not, ◌&&◌, ◌||◌, List, [], ◌∷◌, ◌++◌}
use Rattle.pi_base.specs.declared.guid.Guid.{Guid}
use Rattle.depex_code.specs.declared.opcode.Opcode.{Opcode}
use Rattle.depex_code.specs.declared.opcode.Opcode.TheVariants as opcode

-- what an expression says, by its parts
pub data DepexTree : Type 0 where
  True : DepexTree
  False : DepexTree
  Push : Guid → DepexTree
  Not : DepexTree → DepexTree
  And : DepexTree → DepexTree → DepexTree
  Or : DepexTree → DepexTree → DepexTree

-- the postfix opcodes of a tree: each operator is after its operands
abbrev pub postfix : DepexTree → List Opcode
postfix True = opcode.True ∷ []
postfix False = opcode.False ∷ []
postfix (Push guid) = opcode.Push guid ∷ []
postfix (Not node) = postfix node ++ opcode.Not ∷ []
postfix (And first second) = postfix first ++ (postfix second ++ opcode.And ∷ [])
postfix (Or first second) = postfix first ++ (postfix second ++ opcode.Or ∷ [])

-- whether a tree is true if the GUIDs that pass the test are installed
abbrev pub truth : (Guid → Bool) → DepexTree → Bool
truth has True = true
truth has False = false
truth has (Push guid) = has guid
truth has (Not node) = not (truth has node)
truth has (And first second) = truth has first && truth has second
truth has (Or first second) = truth has first || truth has second
