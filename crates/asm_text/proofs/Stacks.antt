-- The stack of trees while opcodes are gone through.
use Rattle.std.proofs.Common.{◌≡◌, ℕ, zero, suc, ◌+◌, ◌<◌, List, [], ◌∷◌, ◌++◌, length, take, get_or, Option, Some, None, refl, sym, ap, subst, ◌∙◌, ◌≤◌, arith, option_and_then, append-nil, take_all, length-append}
use Rattle.std.proofs.lemmas.Option.{same_Some}
use Rattle.depex_code.specs.{declared.opcode.Opcode.Opcode, Tree.DepexTree, Tree.postfix}
use Rattle.depex_code.specs.TreeCode.{built, stack_after, stack_after-postfix}

-- the value of a step that gave one
pub bind_some : {A B : Type 0} (o : Option A) (f : A → Option B) (y : B) → option_and_then f o ≡ Some y → (x : A) × (o ≡ Some x) × (f x ≡ Some y)
bind_some None f y e = absurd cc
bind_some (Some x) f y e = (x, refl, e)

-- the opcodes of a tree leave it alone on the stack
pub whole_stack : (code : List Opcode) (node : DepexTree) → code ≡ postfix node → stack_after code [] ≡ Some (node ∷ [])
whole_stack code node is = ap (λ codes. stack_after codes []) (is ∙ sym (append-nil (postfix node))) ∙ stack_after-postfix node [] []

-- where all opcodes find their operands, each does
pub next_built : (code : List Opcode) (i : ℕ) (other : Opcode) (from stack whole : List DepexTree) → i < length code → stack_after code from ≡ Some whole
    → stack_after (take i code) from ≡ Some stack → (next : List DepexTree) × (built (get_or code i other) stack ≡ Some next) × (stack_after (take (i + 1) code) from ≡ Some next)
next_built [] i other from stack whole below all here = absurd (omega arith)
next_built (code ∷ codes) zero other from stack whole below all here =
    let next = bind_some (built code from) (λ s. stack_after codes s) whole all in
    let same : from ≡ stack = same_Some from stack here in
    (next.0, subst (λ s. built code s ≡ Some next.0) same next.1, ap (λ o. option_and_then (λ s. stack_after [] s) o) next.1)
next_built (code ∷ codes) (suc i) other from stack whole below all here =
    let next = bind_some (built code from) (λ s. stack_after codes s) whole all in
    let there : stack_after (take i codes) next.0 ≡ Some stack = sym (ap (λ o. option_and_then (λ s. stack_after (take i codes) s) o) next.1) ∙ here in
    let end = next_built codes i other next.0 stack whole (omega arith) next.2 there in
    let more : suc i + 1 ≡ suc (i + 1) = omega arith in
    (end.0, end.1, rw more (ap (λ o. option_and_then (λ s. stack_after (take (i + 1) codes) s) o) next.1 ∙ end.2))

-- a stack that all opcodes leave is that of the tree
pub last_stack : (code : List Opcode) (i : ℕ) (node : DepexTree) (stack : List DepexTree) → code ≡ postfix node → length code ≤ i → stack_after (take i code) [] ≡ Some stack → stack ≡ node ∷ []
last_stack code i node stack is all here =
    let same : take i code ≡ code = take_all i code all in
    same_Some stack (node ∷ []) (sym here ∙ ap (λ codes. stack_after codes []) same ∙ whole_stack code node is)

-- the only one of a list is its last
pub only_last : {A : Type 0} (xs : List A) (x y : A) → y ∷ [] ≡ xs ++ x ∷ [] → x ≡ y
only_last [] x y e = cc
only_last (z ∷ zs) x y e = absurd (omega (arith, ap length e, length-append (z ∷ zs) (x ∷ [])))
