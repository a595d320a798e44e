-- A tree is recovered from its opcodes: each opcode takes its operands off a stack of trees, the last one on top, and pushes its own tree.
use Rattle.std.specs.Prelude.{◌≡◌, ℕ, zero, suc, List, [], ◌∷◌, ◌++◌, map, Option, Some, None, option_and_then, refl}
use Rattle.std.proofs.Common.{sym, ap, ◌∙◌, append_assoc}
use Rattle.std.proofs.lemmas.List.{append-nil}
use Rattle.std.specs.Coded.{Coded, code_by, coded×, coded_ℕ, coded_list}
use Rattle.depex_code.specs.declared.opcode.Opcode.{Opcode}
use Rattle.depex_code.specs.declared.opcode.Opcode.TheVariants as opcode
use Rattle.depex_code.specs.Tree.{DepexTree, True, False, Push, Not, And, Or, postfix}

-- the stack after an opcode, if its operands are there
abbrev pub built : Opcode → List DepexTree → Option (List DepexTree)
built opcode.True stack = Some (True ∷ stack)
built opcode.False stack = Some (False ∷ stack)
built (opcode.Push guid) stack = Some (Push guid ∷ stack)
built opcode.Not (node ∷ stack) = Some (Not node ∷ stack)
built opcode.Not [] = None
built opcode.And (second ∷ first ∷ stack) = Some (And first second ∷ stack)
built opcode.And (second ∷ []) = None
built opcode.And [] = None
built opcode.Or (second ∷ first ∷ stack) = Some (Or first second ∷ stack)
built opcode.Or (second ∷ []) = None
built opcode.Or [] = None

-- the stack after opcodes
abbrev pub stack_after : List Opcode → List DepexTree → Option (List DepexTree)
stack_after [] stack = Some stack
stack_after (code ∷ rest) stack = option_and_then (λ next. stack_after rest next) (built code stack)

-- the tree that is alone on the stack
abbrev pub alone : Option (List DepexTree) → DepexTree
alone (Some (node ∷ [])) = node
alone (Some (node ∷ (other ∷ stack))) = True
alone (Some []) = True
alone None = True

-- the tree that the opcodes spell, if they spell one
abbrev pub tree_of : List Opcode → DepexTree
tree_of code = alone (stack_after code [])

-- an opcode as a number and the bytes of its GUID, and back
abbrev number_of : Opcode → ℕ × List ℕ
number_of (opcode.Push guid) = (0, guid.0)
number_of opcode.And = (1, [])
number_of opcode.Or = (2, [])
number_of opcode.Not = (3, [])
number_of opcode.True = (4, [])
number_of opcode.False = (5, [])

abbrev opcode_of : ℕ → List ℕ → Opcode
opcode_of zero bytes = opcode.Push (record { 0 = bytes })
opcode_of (suc zero) bytes = opcode.And
opcode_of (suc (suc zero)) bytes = opcode.Or
opcode_of (suc (suc (suc zero))) bytes = opcode.Not
opcode_of (suc (suc (suc (suc zero)))) bytes = opcode.True
opcode_of (suc (suc (suc (suc (suc n))))) bytes = opcode.False

abbrev numbers_of : DepexTree → List (ℕ × List ℕ)
numbers_of node = map number_of (postfix node)

abbrev of_numbers : List (ℕ × List ℕ) → DepexTree
of_numbers numbers = tree_of (map (λ n. opcode_of n.0 n.1) numbers)

regroup : (first second : List Opcode) (code : Opcode) (rest : List Opcode) → (first ++ (second ++ code ∷ [])) ++ rest ≡ first ++ (second ++ code ∷ rest)
regroup first second code rest = append_assoc first (second ++ code ∷ []) rest ∙ ap (λ codes. first ++ codes) (append_assoc second (code ∷ []) rest)

-- after the opcodes of a tree, the tree is on top of the stack
pub stack_after-postfix : (node : DepexTree) (rest : List Opcode) (stack : List DepexTree) → stack_after (postfix node ++ rest) stack ≡ stack_after rest (node ∷ stack)
stack_after-postfix True rest stack = refl
stack_after-postfix False rest stack = refl
stack_after-postfix (Push guid) rest stack = refl
stack_after-postfix (Not node) rest stack =
    ap (λ code. stack_after code stack) (append_assoc (postfix node) (opcode.Not ∷ []) rest) ∙ stack_after-postfix node (opcode.Not ∷ rest) stack
stack_after-postfix (And first second) rest stack =
    ap (λ code. stack_after code stack) (regroup (postfix first) (postfix second) opcode.And rest)
    ∙ stack_after-postfix first (postfix second ++ opcode.And ∷ rest) stack ∙ stack_after-postfix second (opcode.And ∷ rest) (first ∷ stack)
stack_after-postfix (Or first second) rest stack =
    ap (λ code. stack_after code stack) (regroup (postfix first) (postfix second) opcode.Or rest)
    ∙ stack_after-postfix first (postfix second ++ opcode.Or ∷ rest) stack ∙ stack_after-postfix second (opcode.Or ∷ rest) (first ∷ stack)

opcode_back : (code : Opcode) → opcode_of (number_of code).0 (number_of code).1 ≡ code
opcode_back (opcode.Push guid) = refl
opcode_back opcode.And = refl
opcode_back opcode.Or = refl
opcode_back opcode.Not = refl
opcode_back opcode.True = refl
opcode_back opcode.False = refl

opcodes_back : (code : List Opcode) → map (λ n. opcode_of n.0 n.1) (map number_of code) ≡ code
opcodes_back [] = refl
opcodes_back (code ∷ rest) = ap (λ c. c ∷ map (λ n. opcode_of n.0 n.1) (map number_of rest)) (opcode_back code) ∙ ap (λ codes. code ∷ codes) (opcodes_back rest)

-- so the opcodes of a tree spell it
pub tree_of-postfix : (node : DepexTree) → tree_of (postfix node) ≡ node
tree_of-postfix node = ap alone (ap (λ code. stack_after code []) (sym (append-nil (postfix node))) ∙ stack_after-postfix node [] [])

pub tree_back : (node : DepexTree) → of_numbers (numbers_of node) ≡ node
tree_back node = ap tree_of (opcodes_back (postfix node)) ∙ tree_of-postfix node

-- two trees differ exactly if their opcodes do
abbrev pub tree_code : Coded DepexTree
tree_code = code_by (List (ℕ × List ℕ)) (coded_list (coded× coded_ℕ (coded_list coded_ℕ))) numbers_of of_numbers tree_back
