-- Stacks of trees: what opcodes leave on one, and what a stack spells.
use Rattle.std.proofs.Common.{◌≡◌, suc, List, [], ◌∷◌, ◌++◌, length, Option, Some, None, refl, sym, ap, ◌∙◌, append_assoc, arith, option_map, option_and_then, append-nil}
use Rattle.std.proofs.lemmas.Bool.Decides.{nat_tests}
use Rattle.depex_code.specs.{declared.opcode.Opcode.Opcode, Depth.depth_after}
use Rattle.depex_code.specs.declared.opcode.Opcode.TheVariants as opcode
use Rattle.depex_code.specs.Tree.{DepexTree, Push, Not, And, Or, True, False, postfix}
use Rattle.depex_code.specs.TreeCode.{built, stack_after, tree_of, alone, stack_after-postfix, tree_of-postfix}

-- the opcodes of the trees on a stack, the lowest first
abbrev pub spelled : List DepexTree → List Opcode
spelled [] = []
spelled (node ∷ stack) = spelled stack ++ postfix node

-- the depth is that of the stack
pub depth-built : (code : Opcode) (stack : List DepexTree) → depth_after code (length stack) ≡ option_map length (built code stack)
depth-built (opcode.Push guid) stack = ap Some (omega arith)
depth-built opcode.True stack = ap Some (omega arith)
depth-built opcode.False stack = ap Some (omega arith)
depth-built opcode.Not [] = refl
depth-built opcode.Not (node ∷ stack) = grind (arith, nat_tests)
depth-built opcode.And [] = refl
depth-built opcode.And (second ∷ []) = refl
depth-built opcode.And (second ∷ first ∷ stack) = grind (arith, nat_tests)
depth-built opcode.Or [] = refl
depth-built opcode.Or (second ∷ []) = refl
depth-built opcode.Or (second ∷ first ∷ stack) = grind (arith, nat_tests)

regroup : (front first second : List Opcode) (code : Opcode) → ((front ++ first) ++ second) ++ code ∷ [] ≡ front ++ (first ++ (second ++ code ∷ []))
regroup front first second code = append_assoc (front ++ first) second (code ∷ []) ∙ append_assoc front first (second ++ code ∷ [])

-- an opcode more is spelled by the stack that it leaves
pub spelled-built : (code : Opcode) (stack next : List DepexTree) → built code stack ≡ Some next → spelled stack ++ code ∷ [] ≡ spelled next
spelled-built (opcode.Push guid) stack next e = let same : Push guid ∷ stack ≡ next = cc in ap spelled same
spelled-built opcode.True stack next e = let same : True ∷ stack ≡ next = cc in ap spelled same
spelled-built opcode.False stack next e = let same : False ∷ stack ≡ next = cc in ap spelled same
spelled-built opcode.Not [] next e = absurd cc
spelled-built opcode.Not (node ∷ stack) next e = let same : Not node ∷ stack ≡ next = cc in append_assoc (spelled stack) (postfix node) (opcode.Not ∷ []) ∙ ap spelled same
spelled-built opcode.And [] next e = absurd cc
spelled-built opcode.And (second ∷ []) next e = absurd cc
spelled-built opcode.And (second ∷ first ∷ stack) next e = let same : And first second ∷ stack ≡ next = cc in regroup (spelled stack) (postfix first) (postfix second) opcode.And ∙ ap spelled same
spelled-built opcode.Or [] next e = absurd cc
spelled-built opcode.Or (second ∷ []) next e = absurd cc
spelled-built opcode.Or (second ∷ first ∷ stack) next e = let same : Or first second ∷ stack ≡ next = cc in regroup (spelled stack) (postfix first) (postfix second) opcode.Or ∙ ap spelled same

-- a step that was made has a stack in the middle
pub built_before : (code : Opcode) (rest : List Opcode) (stack next : List DepexTree) (mid : Option (List DepexTree)) → built code stack ≡ mid → stack_after (code ∷ rest) stack ≡ Some next
    → (m : List DepexTree) × (built code stack ≡ Some m) × (stack_after rest m ≡ Some next)
built_before code rest stack next None is e = let e' : option_and_then (λ s. stack_after rest s) (built code stack) ≡ Some next = e in let n : option_and_then (λ s. stack_after rest s) None ≡ Some next = rw is at e' in absurd cc
built_before code rest stack next (Some m) is e = (m, is, rw is at e)

-- what opcodes leave spells them
pub spelled-after : (code : List Opcode) (stack next : List DepexTree) → stack_after code stack ≡ Some next → spelled stack ++ code ≡ spelled next
spelled-after [] stack next e = let same : stack ≡ next = cc in append-nil (spelled stack) ∙ ap spelled same
spelled-after (code ∷ rest) stack next e =
    let m = built_before code rest stack next (built code stack) refl e in
    sym (append_assoc (spelled stack) (code ∷ []) rest) ∙ ap (λ codes. codes ++ rest) (spelled-built code stack m.0 m.1) ∙ spelled-after rest m.0 next m.2

-- opcodes that leave one tree are those of the tree
pub alone-spelled : (code : List Opcode) (left : Option (List DepexTree)) → stack_after code [] ≡ left → option_map length left ≡ Some 1 → postfix (tree_of code) ≡ code
alone-spelled code None is one = absurd cc
alone-spelled code (Some []) is one = absurd cc
alone-spelled code (Some (node ∷ [])) is one = ap (λ left. postfix (alone left)) is ∙ sym (spelled-after code [] (node ∷ []) is)
alone-spelled code (Some (node ∷ other ∷ stack)) is one = let same : suc (suc (length stack)) ≡ 1 = cc in absurd (omega arith)

-- the opcodes of a tree leave it alone
pub stack_after-tree : (node : DepexTree) → stack_after (postfix node) [] ≡ Some (node ∷ [])
stack_after-tree node = ap (λ code. stack_after code []) (sym (append-nil (postfix node))) ∙ stack_after-postfix node [] []

-- opcodes that a tree has leave one tree
pub spelled-alone : (code : List Opcode) → postfix (tree_of code) ≡ code → option_map length (stack_after code []) ≡ Some 1
spelled-alone code e = rw (← e) (ap (option_map length) (stack_after-tree (tree_of code)))

-- opcodes that a tree has spell it
pub tree_of-of : (node : DepexTree) (code : List Opcode) → postfix node ≡ code → postfix (tree_of code) ≡ code
tree_of-of node code e = ap (λ codes. postfix (tree_of codes)) (sym e) ∙ ap postfix (tree_of-postfix node) ∙ e
