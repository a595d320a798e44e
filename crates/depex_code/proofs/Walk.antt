-- Going over the opcodes of trees, with the stack so far.
use Rattle.std.proofs.Common.{◌≡◌, ℕ, ◌≤◌, Bool, List, [], ◌∷◌, map, drop, length, Some}
use Rattle.pi_base.specs.declared.guid.Guid.{Guid}
use Rattle.depex_code.specs.{declared.opcode.Opcode.Opcode, Tree.DepexTree, Tree.truth, TreeCode.stack_after, TreeCode.tree_of}

-- the first i opcodes left so many trees
pub record IsAt (code : List Opcode) (i depth : ℕ) : Type 0 where
  pub stack : List DepexTree
  pub left : stack_after (drop i code) stack ≡ stack_after code []
  pub deep : length stack ≡ depth
  pub within : depth ≤ i

-- the first i opcodes left these values
pub record HasValues (has : Guid → Bool) (code : List Opcode) (i : ℕ) (values : List Bool) : Type 0 where
  pub stack : List DepexTree
  pub left : stack_after (drop i code) stack ≡ Some (tree_of code ∷ [])
  pub truths : values ≡ map (truth has) stack
  pub within : length values ≤ i
