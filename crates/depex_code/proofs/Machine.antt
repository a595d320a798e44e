-- An expression's opcodes in order, as a machine takes them: its states, and that each expression is taken and ends it.
use Rattle.std.proofs.Common.{◌≡◌, ◌≢◌, Bool, true, false, List, [], ◌∷◌, ◌++◌, map, Option, Some, None, refl, sym, ap, ◌∙◌, append_assoc, option_map, option_and_then, append-nil}
use Rattle.std.specs.{Prelude.⊤, List.AllByRecursion}
use Rattle.std.proofs.lemmas.List.{map-append}
use Rattle.pi_base.specs.{declared.phase.Phase.Phase, declared.phase.Phase.TheVariants.Pei, declared.phase.Phase.TheVariants.Dxe}
use Rattle.depex_code.specs.{declared.opcode.Opcode.Opcode, declared.instruction.Instruction.Instruction, declared.depex.Depex.Depex}
use Rattle.depex_code.specs.declared.opcode.Opcode.TheVariants as opcode
use Rattle.depex_code.specs.declared.instruction.Instruction.TheVariants as instruction
use Rattle.depex_code.specs.declared.depex.Depex.TheVariants as depex
use Rattle.depex_code.specs.Tree.{DepexTree, True, And, postfix}
use Rattle.depex_code.specs.{TreeCode.built, TreeCode.stack_after, Instruction.IsWhole}
use Rattle.depex_code.specs.Expression.{instructions, sor_front, IsOfPhase, GoesOn}
use Rattle.depex_code.proofs.Stacks.{stack_after-tree, spelled, spelled-after}
use Rattle.depex_code.proofs.TreeWalk.{all-append}

-- where a machine stands: at the start, behind BEFORE or AFTER, in a tree, or at the end of an expression
pub data State : Type 0 where
  start : State
  named : Depex → State
  within : Bool → List DepexTree → State
  done : Depex → State

abbrev ended : Bool → List DepexTree → Option State
ended sor [] = None
ended sor (node ∷ []) = Some (done (depex.Expr sor node))
ended sor (node ∷ (other ∷ stack)) = None

abbrev inside : Bool → List DepexTree → Instruction → Option State
inside sor stack (instruction.Of code) = option_map (within sor) (built code stack)
inside sor stack instruction.End = ended sor stack
inside sor stack (instruction.Before guid) = None
inside sor stack (instruction.After guid) = None
inside sor stack instruction.Sor = None

abbrev first : Phase → Instruction → Option State
first Pei (instruction.Before guid) = None
first Pei (instruction.After guid) = None
first Pei instruction.Sor = None
first Dxe (instruction.Before guid) = Some (named (depex.Before guid))
first Dxe (instruction.After guid) = Some (named (depex.After guid))
first Dxe instruction.Sor = Some (within true [])
first phase (instruction.Of code) = option_map (within false) (built code [])
first phase instruction.End = None

abbrev behind_name : Depex → Instruction → Option State
behind_name e instruction.End = Some (done e)
behind_name e (instruction.Of code) = None
behind_name e (instruction.Before guid) = None
behind_name e (instruction.After guid) = None
behind_name e instruction.Sor = None

abbrev pub next_state : Phase → State → Instruction → Option State
next_state phase start x = first phase x
next_state phase (named e) x = behind_name e x
next_state phase (within sor stack) x = inside sor stack x
next_state phase (done e) x = None

abbrev pub runs : Phase → State → List Instruction → Option State
runs phase state [] = Some state
runs phase state (x ∷ xs) = option_and_then (λ s. runs phase s xs) (next_state phase state x)

pub runs-append : (phase : Phase) (state : State) (xs ys : List Instruction) → runs phase state (xs ++ ys) ≡ option_and_then (λ s. runs phase s ys) (runs phase state xs)
runs-append phase state [] ys = refl
runs-append phase state (x ∷ xs) ys =
    elim (next_state phase state x) as (λ b. option_and_then (λ s. runs phase s (xs ++ ys)) b ≡ option_and_then (λ s. runs phase s ys) (option_and_then (λ s. runs phase s xs) b)) [
      | None ↦ refl
      | Some next ↦ runs-append phase next xs ys
    ]

-- opcodes of a tree lead from one stack to the other
pub runs-within : (phase : Phase) (sor : Bool) (code : List Opcode) (stack : List DepexTree) → runs phase (within sor stack) (map instruction.Of code) ≡ option_map (within sor) (stack_after code stack)
runs-within phase sor [] stack = refl
runs-within phase sor (c ∷ code) stack =
    elim (built c stack) as (λ b. option_and_then (λ s. runs phase s (map instruction.Of code)) (option_map (within sor) b) ≡ option_map (within sor) (option_and_then (λ s. stack_after code s) b)) [
      | None ↦ refl
      | Some next ↦ runs-within phase sor code next
    ]

-- the state behind SOR, if it is there, and opcodes of a tree
abbrev pub tree_state : Bool → List Opcode → List DepexTree → State
tree_state true code stack = within true stack
tree_state false [] stack = start
tree_state false (c ∷ code) stack = within false stack

-- where SOR may stand
abbrev pub MayBe : Phase → Bool → Type 0
MayBe Pei sor = sor ≡ false
MayBe Dxe sor = ⊤

pub runs-tree : (phase : Phase) (sor : Bool) (code : List Opcode) (stack : List DepexTree) → MayBe phase sor → stack_after code [] ≡ Some stack
    → runs phase start (sor_front sor ++ map instruction.Of code) ≡ Some (tree_state sor code stack)
runs-tree Pei true code stack may e = absurd cc
runs-tree Dxe true code stack may e = runs-within Dxe true code [] ∙ ap (option_map (within true)) e
runs-tree Pei false [] stack may e = refl
runs-tree Dxe false [] stack may e = refl
runs-tree Pei false (c ∷ code) stack may e = runs-within Pei false (c ∷ code) [] ∙ ap (option_map (within false)) e
runs-tree Dxe false (c ∷ code) stack may e = runs-within Dxe false (c ∷ code) [] ∙ ap (option_map (within false)) e

-- a tree has an opcode
pub some_opcode : (node : DepexTree) → postfix node ≡ [] → ⊥
some_opcode node e = let s : ◌≡◌ {A = Option (List DepexTree)} (Some (node ∷ [])) (Some []) = sym (stack_after-tree node) ∙ ap (λ code. stack_after code []) e in absurd cc

end_of_tree : (phase : Phase) (sor : Bool) (code : List Opcode) (node : DepexTree) → postfix node ≡ code → option_and_then (λ s. runs phase s (instruction.End ∷ [])) (Some (tree_state sor code (node ∷ []))) ≡ Some (done (depex.Expr sor node))
end_of_tree phase true code node e = refl
end_of_tree phase false [] node e = absurd (some_opcode node e)
end_of_tree phase false (c ∷ code) node e = refl

runs-expression : (phase : Phase) (sor : Bool) (node : DepexTree) → MayBe phase sor → runs phase start (instructions (depex.Expr sor node)) ≡ Some (done (depex.Expr sor node))
runs-expression phase sor node may =
    ap (runs phase start) (sym (append_assoc (sor_front sor) (map instruction.Of (postfix node)) (instruction.End ∷ [])))
    ∙ runs-append phase start (sor_front sor ++ map instruction.Of (postfix node)) (instruction.End ∷ [])
    ∙ ap (option_and_then (λ s. runs phase s (instruction.End ∷ []))) (runs-tree phase sor (postfix node) (node ∷ []) may (stack_after-tree node))
    ∙ end_of_tree phase sor (postfix node) node refl

-- an expression of the phase is taken to its end
pub runs-instructions : (phase : Phase) (e : Depex) → IsOfPhase phase e → runs phase start (instructions e) ≡ Some (done e)
runs-instructions Pei (depex.Before guid) is = absurd is
runs-instructions Pei (depex.After guid) is = absurd is
runs-instructions Pei (depex.Expr sor node) is = runs-expression Pei sor node is
runs-instructions Dxe (depex.Before guid) is = refl
runs-instructions Dxe (depex.After guid) is = refl
runs-instructions Dxe (depex.Expr sor node) is = runs-expression Dxe sor node tt

-- what goes on from a state is taken there
pub goes_on_taken : (phase : Phase) (front : List Instruction) (state : State) (x : Instruction) (behind : List Instruction) → runs phase start front ≡ Some state → GoesOn phase front (x ∷ behind) → next_state phase state x ≢ None
goes_on_taken phase front state x behind at goes none =
    let e = goes.0 in
    let all : runs phase start (front ++ x ∷ behind) ≡ Some (done e) = ap (runs phase start) (sym goes.3) ∙ runs-instructions phase e goes.1 in
    let split : option_and_then (λ s. runs phase s (x ∷ behind)) (runs phase start front) ≡ Some (done e) = sym (runs-append phase start front (x ∷ behind)) ∙ all in
    let here : option_and_then (λ s. runs phase s behind) (next_state phase state x) ≡ Some (done e) = rw at at split in
    let never : option_and_then (λ s. runs phase s behind) None ≡ Some (done e) = rw none at here in
    absurd cc

-- a stack is completed to one tree by operators
abbrev Completed : List DepexTree → Type 0
Completed stack = (node : DepexTree) × (more : List Opcode) × (postfix node ≡ spelled stack ++ more) × AllByRecursion IsWhole (map instruction.Of more)

completed_under : (top : DepexTree) (stack : List DepexTree) → Completed (top ∷ stack)
completed_under top [] = (top, [], sym (append-nil (postfix top)), tt)
completed_under top (below ∷ stack) =
    let made = completed_under (And below top) stack in
    let same : spelled (And below top ∷ stack) ++ made.1 ≡ spelled (top ∷ below ∷ stack) ++ opcode.And ∷ made.1 = simp append_assoc in
    (made.0, opcode.And ∷ made.1, made.2 ∙ same, (tt, made.3))

completed : (stack : List DepexTree) → Completed stack
completed [] = (True, opcode.True ∷ [], refl, (tt, tt))
completed (top ∷ stack) = completed_under top stack

headed : (xs : List Instruction) (x : Instruction) → (next : Instruction) × (behind : List Instruction) × (xs ++ x ∷ [] ≡ next ∷ behind)
headed [] x = (x, [], refl)
headed (y ∷ ys) x = (y, ys ++ x ∷ [], refl)

pub may_be : (phase : Phase) (sor : Bool) (node : DepexTree) → MayBe phase sor → IsOfPhase phase (depex.Expr sor node)
may_be Pei sor node may = may
may_be Dxe sor node may = tt

pub sor_whole : (sor : Bool) → AllByRecursion IsWhole (sor_front sor)
sor_whole true = (tt, tt)
sor_whole false = tt

-- opcodes of trees are the front of an expression
pub tree_goes_on : (phase : Phase) (sor : Bool) (code : List Opcode) (stack : List DepexTree) → MayBe phase sor → stack_after code [] ≡ Some stack → AllByRecursion IsWhole (map instruction.Of code)
    → (next : Instruction) × (behind : List Instruction) × GoesOn phase (sor_front sor ++ map instruction.Of code) (next ∷ behind)
tree_goes_on phase sor code stack may e whole =
    let made = completed stack in
    let spells : postfix made.0 ≡ code ++ made.1 = made.2 ∙ ap (λ codes. codes ++ made.1) (sym (spelled-after code [] stack e)) in
    let head = headed (map instruction.Of made.1) instruction.End in
    let ops : map instruction.Of (postfix made.0) ≡ map instruction.Of code ++ map instruction.Of made.1 = ap (map instruction.Of) spells ∙ map-append instruction.Of code made.1 in
    let same : instructions (depex.Expr sor made.0) ≡ (sor_front sor ++ map instruction.Of code) ++ (head.0 ∷ head.1) =
    ap (λ xs. sor_front sor ++ (xs ++ instruction.End ∷ [])) ops
    ∙ ap (λ xs. sor_front sor ++ xs) (append_assoc (map instruction.Of code) (map instruction.Of made.1) (instruction.End ∷ []) ∙ ap (λ xs. map instruction.Of code ++ xs) head.2)
    ∙ sym (append_assoc (sor_front sor) (map instruction.Of code) (head.0 ∷ head.1)) in
    let all = all-append (sor_front sor) (map instruction.Of code ++ (map instruction.Of made.1 ++ instruction.End ∷ [])) (sor_whole sor)
    (all-append (map instruction.Of code) (map instruction.Of made.1 ++ instruction.End ∷ []) whole (all-append (map instruction.Of made.1) (instruction.End ∷ []) made.3 (tt, tt))) in
    let wholly : AllByRecursion IsWhole (instructions (depex.Expr sor made.0)) = rw (ops, append_assoc (map instruction.Of code) (map instruction.Of made.1) (instruction.End ∷ [])) all in
    (head.0, head.1, (depex.Expr sor made.0, may_be phase sor made.0 may, wholly, same))
