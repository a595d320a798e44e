-- The text of a tree is gone through from its beginning to its end, and its opcodes are written.
use Rattle.std.proofs.Common.{◌≡◌, ℕ, true, false, List, [], ◌∷◌, ◌++◌, Some, refl, ap, subst, ◌∙◌, codes, append_assoc}
use Rattle.depex_code.specs.declared.opcode.Opcode.{Opcode}
use Rattle.depex_code.specs.declared.opcode.Opcode.TheVariants as opcode
use Rattle.depex_code.specs.Tree.{DepexTree, True, False, Push, Not, And, Or, postfix}
use Rattle.asm_text.specs.{declared.token.Waiting.Waiting, ExpressionText.bracketed, ExpressionText.tree_text, Front.behind}
use Rattle.asm_text.specs.declared.token.Waiting.TheVariants.{Negation, First, Conjunction, Disjunction}
use Rattle.asm_text.specs.Walk.{Place, step, turned, opened, closed, resumed, token_at, operator_at}
use Rattle.asm_text.specs.ReadTree.{IsTree}
use Rattle.asm_text.proofs.Fronts.{behind_there}
use Rattle.asm_text.proofs.Paths.{at, Path, path_then, path_one, split_push}
use Rattle.asm_text.proofs.Tokens.{token_first, token_not, token_true, token_false, token_guid, operator_and, operator_or}

-- wherever a text stands, it is gone through, and these opcodes are written
abbrev Passes : List ℕ → List Opcode → Type 0
Passes text codes = (rest : List ℕ) (waiting : List Waiting) (code : List Opcode) → (path : List Place) × Path (at (text ++ rest) false waiting code) path (at rest true waiting (code ++ codes))

leaf : (text : List ℕ) (operator : Opcode) → ((rest : List ℕ) → token_at (text ++ rest) ≡ Some (Rattle.asm_text.specs.declared.token.Token.TheVariants.Is operator, rest)) → Passes text (operator ∷ [])
leaf text operator token rest waiting code =
    (at rest true waiting (code ++ operator ∷ []) ∷ [], path_one (at (text ++ rest) false waiting code) (at rest true waiting (code ++ operator ∷ [])) (ap (turned waiting code) (token rest)))

negated : (text : List ℕ) (codes_of : List Opcode) → Passes text codes_of → Passes (codes "not " ++ text) (codes_of ++ opcode.Not ∷ [])
negated text codes_of inner rest waiting code =
    let inside = waiting ++ Negation ∷ [] in
    let a = at (codes "not " ++ (text ++ rest)) false waiting code in
    let b = at (text ++ rest) false inside code in
    let c = at rest true inside (code ++ codes_of) in
    let d = at rest true waiting ((code ++ codes_of) ++ opcode.Not ∷ []) in
    let p = inner rest inside code in
    let s : step a ≡ Some b = ap (turned waiting code) (token_not (text ++ rest)) in
    let t : step c ≡ Some d = ap (resumed rest (code ++ codes_of)) (split_push waiting Negation) in
    let whole : Path a (b ∷ (p.0 ++ d ∷ [])) d = (s, path_then b p.0 c (d ∷ []) d p.1 (path_one c d t)) in
    let written : (code ++ codes_of) ++ opcode.Not ∷ [] ≡ code ++ (codes_of ++ opcode.Not ∷ []) = append_assoc code codes_of (opcode.Not ∷ []) in
    let regrouped : codes "not " ++ (text ++ rest) ≡ (codes "not " ++ text) ++ rest = refl in
    (b ∷ (p.0 ++ d ∷ []), subst (λ (n : List Opcode). Path a (b ∷ (p.0 ++ d ∷ [])) (at rest true waiting n)) written whole)

regroup : (first between second rest : List ℕ) → codes "(" ++ (first ++ (between ++ (second ++ (codes ")" ++ rest)))) ≡ bracketed first between second ++ rest
regroup first between second rest = simp append_assoc

both : (first second between : List ℕ) (xs ys : List Opcode) (what : Waiting) (operator : Opcode)
    → ((rest : List ℕ) → operator_at (between ++ rest) ≡ Some (what, rest))
    → ((rest : List ℕ) (waiting : List Waiting) (code : List Opcode) → resumed rest code (Some (waiting, what)) ≡ closed waiting code operator (behind (codes ")") rest))
    → Passes first xs → Passes second ys → Passes (bracketed first between second) (xs ++ (ys ++ operator ∷ []))
both first second between xs ys what operator is_operator is_closed before after rest waiting code =
    let outer = waiting ++ First ∷ [] in
    let inner = waiting ++ what ∷ [] in
    let t2 = second ++ (codes ")" ++ rest) in
    let t1 = first ++ (between ++ t2) in
    let written = (code ++ xs) ++ ys in
    let a = at (codes "(" ++ t1) false waiting code in
    let b = at t1 false outer code in
    let c = at (between ++ t2) true outer (code ++ xs) in
    let d = at t2 false inner (code ++ xs) in
    let e = at (codes ")" ++ rest) true inner written in
    let f = at rest true waiting (written ++ operator ∷ []) in
    let p = before (between ++ t2) outer code in
    let q = after (codes ")" ++ rest) inner (code ++ xs) in
    let s1 : step a ≡ Some b = ap (turned waiting code) (token_first t1) in
    let s2 : step c ≡ Some d = ap (resumed (between ++ t2) (code ++ xs)) (split_push waiting First) ∙ ap (opened waiting (code ++ xs)) (is_operator t2) in
    let s3 : step e ≡ Some f = ap (resumed (codes ")" ++ rest) written) (split_push waiting what) ∙ is_closed (codes ")" ++ rest) waiting written ∙ ap (closed waiting written operator) (behind_there (codes ")") rest) in
    let back = path_then d q.0 e (f ∷ []) f q.1 (path_one e f s3) in
    let middle : Path c (d ∷ (q.0 ++ f ∷ [])) f = (s2, back) in
    let path = b ∷ (p.0 ++ d ∷ (q.0 ++ f ∷ [])) in
    let whole : Path a path f = (s1, path_then b p.0 c (d ∷ (q.0 ++ f ∷ [])) f p.1 middle) in
    let all : written ++ operator ∷ [] ≡ code ++ (xs ++ (ys ++ operator ∷ [])) = simp append_assoc in
    let there : Path a path (at rest true waiting (code ++ (xs ++ (ys ++ operator ∷ [])))) = subst (λ (n : List Opcode). Path a path (at rest true waiting n)) all whole in
    (path, subst (λ (t : List ℕ). Path (at t false waiting code) path (at rest true waiting (code ++ (xs ++ (ys ++ operator ∷ []))))) (regroup first between second rest) there)

pub passes : (node : DepexTree) → IsTree node → Passes (tree_text node) (postfix node)
passes True is = leaf (codes "true") opcode.True token_true
passes False is = leaf (codes "false") opcode.False token_false
passes (Push guid) is = leaf (tree_text (Push guid)) (opcode.Push guid) (λ rest. token_guid guid rest is)
passes (Not node) is = negated (tree_text node) (postfix node) (passes node is)
passes (And first second) is =
    both (tree_text first) (tree_text second) (codes " and ") (postfix first) (postfix second) Conjunction opcode.And operator_and (λ rest waiting code. refl) (passes first is.0) (passes second is.1)
passes (Or first second) is =
    both (tree_text first) (tree_text second) (codes " or ") (postfix first) (postfix second) Disjunction opcode.Or operator_or (λ rest waiting code. refl) (passes first is.0) (passes second is.1)
