use Rattle.std.proofs.Common.{◌≡◌, [], List, Some, take}
use Rattle.depex_code.specs.{Tree.DepexTree, TreeCode.stack_after}
use Rattle.asm_text.specs.Texts.{texts_of}
use Rattle.asm_text.proofs.tree_text.tree_text.Given as goal

-- the texts are those of the trees on the stack
abbrev pub invariant-loop-opcode : goal.invariant-loop-opcode
invariant-loop-opcode l = (stack : List DepexTree) × (l.texts ≡ texts_of stack) × (stack_after (take l.opcode-index l.code) [] ≡ Some stack)
