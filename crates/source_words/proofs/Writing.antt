-- The opcodes that are written of an expression are those of its tree.
use Rattle.std.proofs.Common.{◌≡◌, ◌⊎◌, inl, inr, ◌&&◌, Bool, true, false, List, [], ◌∷◌, ◌++◌, refl, sym, ap, ◌∙◌, append_assoc}
use Rattle.std.specs.Prelude.{⊤}
use Rattle.depex_code.specs.declared.opcode.Opcode.TheVariants as opcode
use Rattle.depex_code.specs.Tree.{DepexTree, postfix}
use Rattle.source_words.specs.declared.depex.stack.Waiting.{Waiting}
use Rattle.source_words.specs.declared.depex.stack.Waiting.TheVariants.{Negation, Bracket, Between}
use Rattle.source_words.specs.declared.depex.walk.Stage.TheVariants.{Due, Ended}
use Rattle.source_words.specs.{declared.depex.token.Leaf.Leaf, declared.depex.token.Operator.Operator, declared.depex.token.Token.Token}
use Rattle.source_words.specs.declared.depex.token.Leaf.TheVariants as leaf
use Rattle.source_words.specs.declared.depex.token.Operator.TheVariants as operator
use Rattle.source_words.specs.declared.depex.token.Token.TheVariants as token
use Rattle.source_words.specs.Written.{Written, Alone, Negated, Bracketed, Joined, is_operand, is_grouped, tokens_of, tree_of, leaf_tree, operator_tree}
use Rattle.source_words.specs.Emission.{emitted, nots, behind_nots, leaf_opcode, operator_opcode}

-- no operator follows
abbrev pub IsClosing : List Token → Type 0
IsClosing (token.Operator operator ∷ rest) = ⊥
IsClosing _ = ⊤

-- no NOT is on top
abbrev pub HasNoNot : List Waiting → Type 0
HasNoNot stack = (nots stack ≡ []) × (behind_nots stack ≡ stack)

-- what waits is written as soon as all that it binds is there
not_waits : (stack : List Waiting) (rest : List Token) → emitted (Negation ∷ stack) Ended rest ≡ opcode.Not ∷ emitted stack Ended rest
not_waits stack [] = refl
not_waits stack (token.Leaf one ∷ rest) = refl
not_waits stack (token.Not ∷ rest) = refl
not_waits stack (token.Open ∷ rest) = refl
not_waits stack (token.Close ∷ rest) = refl
not_waits stack (token.Operator operator ∷ rest) = refl
not_waits stack (token.First first ∷ rest) = refl
not_waits stack (token.End ∷ rest) = refl
not_waits stack (token.Other ∷ rest) = refl

operator_waits : (between : Operator) (stack : List Waiting) (rest : List Token) → IsClosing rest → emitted (Between between ∷ stack) Ended rest ≡ operator_opcode between ∷ emitted stack Ended rest
operator_waits between stack [] closing = refl
operator_waits between stack (token.Leaf one ∷ rest) closing = refl
operator_waits between stack (token.Not ∷ rest) closing = refl
operator_waits between stack (token.Open ∷ rest) closing = refl
operator_waits between stack (token.Close ∷ rest) closing = refl
operator_waits between stack (token.Operator operator ∷ rest) closing = absurd closing
operator_waits between stack (token.First first ∷ rest) closing = refl
operator_waits between stack (token.End ∷ rest) closing = refl
operator_waits between stack (token.Other ∷ rest) closing = refl

leaf_postfix : (one : Leaf) → leaf_opcode one ∷ [] ≡ postfix (leaf_tree one)
leaf_postfix leaf.True = refl
leaf_postfix leaf.False = refl
leaf_postfix (leaf.Push guid) = refl

operator_postfix : (between : Operator) (first others : DepexTree) → postfix first ++ (postfix others ++ operator_opcode between ∷ []) ≡ postfix (operator_tree between first others)
operator_postfix operator.And first others = refl
operator_postfix operator.Or first others = refl

both : (a b : Bool) → (a && b) ≡ true → (a ≡ true) × (b ≡ true)
both true b h = (refl, h)
both false b h = absurd cc

pub writes : (one : Written) (stack : List Waiting) (rest : List Token) → is_grouped one ≡ true → (is_operand one ≡ true) ⊎ (HasNoNot stack × IsClosing rest)
    → emitted stack Due (tokens_of one ++ rest) ≡ postfix (tree_of one) ++ emitted stack Ended rest
writes (Alone one) stack rest grouped place = ap (λ c. c ++ emitted stack Ended rest) (leaf_postfix one)
writes (Negated one) stack rest grouped place =
    let g = both (is_operand one) (is_grouped one) grouped in
    writes one (Negation ∷ stack) rest g.1 (inl g.0) ∙ ap (λ c. postfix (tree_of one) ++ c) (not_waits stack rest)
    ∙ sym (append_assoc (postfix (tree_of one)) (opcode.Not ∷ []) (emitted stack Ended rest))
writes (Bracketed one) stack rest grouped place =
    ap (emitted (Bracket ∷ stack) Due) (append_assoc (tokens_of one) (token.Close ∷ []) rest)
    ∙ writes one (Bracket ∷ stack) (token.Close ∷ rest) grouped (inr ((refl, refl), tt))
writes (Joined between first others) stack rest grouped (inl h) = absurd cc
writes (Joined between first others) stack rest grouped (inr h) =
    let g = both (is_operand first && is_grouped first) (is_grouped others) grouped in
    let f = both (is_operand first) (is_grouped first) g.0 in
    let a = postfix (tree_of first) in
    let b = postfix (tree_of others) in
    let o = operator_opcode between in
    let e = emitted stack Ended rest in
    let next = token.Operator between ∷ (tokens_of others ++ rest) in
    let start : emitted stack Due ((tokens_of first ++ token.Operator between ∷ tokens_of others) ++ rest) ≡ emitted stack Due (tokens_of first ++ next) =
    ap (emitted stack Due) (append_assoc (tokens_of first) (token.Operator between ∷ tokens_of others) rest) in
    let one : emitted stack Due (tokens_of first ++ next) ≡ a ++ emitted stack Ended next = writes first stack next f.1 (inl f.0) in
    let two : emitted stack Ended next ≡ emitted (Between between ∷ stack) Due (tokens_of others ++ rest) =
    ap (λ n. n ++ emitted (Between between ∷ behind_nots stack) Due (tokens_of others ++ rest)) h.0.0 ∙ ap (λ s. emitted (Between between ∷ s) Due (tokens_of others ++ rest)) h.0.1 in
    let three : emitted (Between between ∷ stack) Due (tokens_of others ++ rest) ≡ b ++ emitted (Between between ∷ stack) Ended rest =
    writes others (Between between ∷ stack) rest g.1 (inr ((refl, refl), h.1)) in
    let four : emitted (Between between ∷ stack) Ended rest ≡ o ∷ e = operator_waits between stack rest h.1 in
    let end : a ++ (b ++ o ∷ e) ≡ (a ++ (b ++ o ∷ [])) ++ e = simp append_assoc in
    start ∙ one ∙ ap (λ c. a ++ c) (two ∙ three ∙ ap (λ c. b ++ c) four) ∙ end ∙ ap (λ c. c ++ e) (operator_postfix between (tree_of first) (tree_of others))
