-- The GUIDs of an expression whose spelling is bytes are sixteen bytes each.
use Rattle.std.proofs.Common.{true, false, List, [], ◌∷◌, ◌++◌, map, subst}
use Rattle.std.specs.List.{AllByRecursion}
use Rattle.std.proofs.lemmas.List.{map-append}
use Rattle.hex.specs.Hex.{IsBytes}
use Rattle.depex_code.specs.{declared.opcode.Opcode.Opcode, declared.instruction.Instruction.Instruction, declared.depex.Depex.Depex}
use Rattle.depex_code.specs.declared.opcode.Opcode.TheVariants as opcode
use Rattle.depex_code.specs.declared.instruction.Instruction.TheVariants as instruction
use Rattle.depex_code.specs.declared.depex.Depex.TheVariants as depex
use Rattle.depex_code.specs.Tree.{DepexTree, True, False, Push, Not, And, Or, postfix}
use Rattle.depex_code.specs.{Instruction.instruction_bytes, Instruction.IsWhole, Expression.instructions, Expression.bytes_of}
use Rattle.asm_text.specs.ReadTree.{IsTree, IsExpression}
use Rattle.volume_again.proofs.ByteRuns.{bytes_tail, each_bytes}

-- an opcode of bytes
abbrev Good : Instruction → Type 0
Good one = IsWhole one × IsBytes (instruction_bytes one)

goods : (list : List Instruction) → AllByRecursion IsWhole list → AllByRecursion (λ one. IsBytes (instruction_bytes one)) list → AllByRecursion Good list
goods [] whole bytes = tt
goods (one ∷ list) whole bytes = ((whole.0, bytes.0), goods list whole.1 bytes.1)

front : (xs ys : List Instruction) → AllByRecursion Good (xs ++ ys) → AllByRecursion Good xs
front [] ys all = tt
front (x ∷ xs) ys all = (all.0, front xs ys all.1)

back : (xs ys : List Instruction) → AllByRecursion Good (xs ++ ys) → AllByRecursion Good ys
back [] ys all = all
back (x ∷ xs) ys all = back xs ys all.1

split : (xs ys : List Opcode) → AllByRecursion Good (map instruction.Of (xs ++ ys)) → AllByRecursion Good (map instruction.Of xs) × AllByRecursion Good (map instruction.Of ys)
split xs ys all =
    let apart = subst (AllByRecursion Good) (map-append instruction.Of xs ys) all in
    (front (map instruction.Of xs) (map instruction.Of ys) apart, back (map instruction.Of xs) (map instruction.Of ys) apart)

tree_is : (node : DepexTree) → AllByRecursion Good (map instruction.Of (postfix node)) → IsTree node
tree_is True all = tt
tree_is False all = tt
tree_is (Push guid) all = (all.0.0, bytes_tail 2 guid.0 all.0.1)
tree_is (Not node) all = tree_is node (split (postfix node) (opcode.Not ∷ []) all).0
tree_is (And one other) all =
    let parts = split (postfix one) (postfix other ++ opcode.And ∷ []) all in
    (tree_is one parts.0, tree_is other (split (postfix other) (opcode.And ∷ []) parts.1).0)
tree_is (Or one other) all =
    let parts = split (postfix one) (postfix other ++ opcode.Or ∷ []) all in
    (tree_is one parts.0, tree_is other (split (postfix other) (opcode.Or ∷ []) parts.1).0)

expression_by : (e : Depex) → AllByRecursion Good (instructions e) → IsExpression e
expression_by (depex.Before guid) all = (all.0.0, bytes_tail 0 guid.0 all.0.1)
expression_by (depex.After guid) all = (all.0.0, bytes_tail 1 guid.0 all.0.1)
expression_by (depex.Expr true node) all = tree_is node (front (map instruction.Of (postfix node)) (instruction.End ∷ []) all.1)
expression_by (depex.Expr false node) all = tree_is node (front (map instruction.Of (postfix node)) (instruction.End ∷ []) all)

pub expression_is : (e : Depex) → AllByRecursion IsWhole (instructions e) → IsBytes (bytes_of (instructions e)) → IsExpression e
expression_is e whole bytes = expression_by e (goods (instructions e) whole (each_bytes instruction_bytes (instructions e) bytes))
