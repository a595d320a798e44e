-- The tree of words.
use Rattle.std.proofs.Common.{◌≡◌, inl, inr, zero, List, [], ◌∷◌, ◌++◌, Option, Some, None, refl, sym, ap, subst, ◌∙◌, rules, IfNone, IsSome, append-nil}
use Rattle.depex_code.specs.{declared.opcode.Opcode.Opcode, Tree.DepexTree, Tree.postfix, TreeCode.tree_of-postfix}
use Rattle.depex_code.specs.TreeCode as code
use Rattle.source_words.specs.declared.depex.walk.Stage.TheVariants.{Due, Ended}
use Rattle.source_words.specs.{declared.depex.token.First.First, declared.depex.token.Token.Token, Written.tree_of, Cause.tree_cause}
use Rattle.source_words.specs.declared.depex.token.Token.TheVariants as token
use Rattle.source_words.specs.{Emission.emitted, Expression.IsEnd, Expression.IsTreeOf}
use Rattle.source_words.proofs.{Passing.passes, Writing.IsClosing, Writing.writes, Parts.complete}

closing_end : (end : List Token) → IsEnd end → IsClosing end
closing_end end (inl e) = subst IsClosing (sym e) tt
closing_end end (inr e) = subst IsClosing (sym e) tt

end_writes : (end : List Token) → IsEnd end → emitted [] Ended end ≡ []
end_writes end (inl e) = ap (emitted [] Ended) e
end_writes end (inr e) = ap (emitted [] Ended) e

end_passes : (end : List Token) → IsEnd end → tree_cause zero Ended end ≡ None
end_passes end (inl e) = ap (tree_cause zero Ended) e
end_passes end (inr e) = ap (tree_cause zero Ended) e

-- the opcodes that are written of the words are the tree's
pub tree_written : (tokens : List Token) (node : DepexTree) → IsTreeOf tokens node → emitted [] Due tokens ≡ postfix node
tree_written tokens node is =
    let p = postfix (tree_of is.written) in
    ap (emitted [] Due) is.here ∙ writes is.written [] is.end is.grouped (inr ((refl, refl), closing_end is.end is.is_end))
    ∙ ap (λ c. p ++ c) (end_writes is.end is.is_end) ∙ append-nil p ∙ ap postfix (sym is.means)

pub one_tree : (tokens : List Token) (a b : DepexTree) → IsTreeOf tokens a → IsTreeOf tokens b → a ≡ b
one_tree tokens a b is other = sym (tree_of-postfix a) ∙ ap code.tree_of (sym (tree_written tokens a is) ∙ tree_written tokens b other) ∙ tree_of-postfix b

pub tree_passes : (tokens : List Token) (node : DepexTree) → IsTreeOf tokens node → tree_cause zero Due tokens ≡ None
tree_passes tokens node is = ap (tree_cause zero Due) is.here ∙ passes is.written zero is.end ∙ end_passes is.end is.is_end

pub some_tree : (tokens : List Token) → tree_cause zero Due tokens ≡ None → (node : DepexTree) × IsTreeOf tokens node
some_tree tokens none =
    let all = complete tokens none in
    (tree_of all.written, record { written = all.written; end = all.end; grouped = all.grouped; is_end = all.is_end; here = all.here; means = refl })

-- the opcodes that are written are those of a tree
pub some_code : (tokens : List Token) (opcodes : List Opcode) → tree_cause zero Due tokens ≡ None → opcodes ≡ emitted [] Due tokens → (node : DepexTree) × (postfix node ≡ opcodes)
some_code tokens opcodes none is = let found = some_tree tokens none in (found.0, sym (is ∙ tree_written tokens found.0 found.1))

pub found_tree : (tokens : List Token) (opcodes : List Opcode) (node : DepexTree) → tree_cause zero Due tokens ≡ None → opcodes ≡ emitted [] Due tokens → postfix node ≡ opcodes → IsTreeOf tokens node
found_tree tokens opcodes node none is of =
    let found = some_tree tokens none in
    let same : found.0 ≡ node = sym (tree_of-postfix found.0) ∙ ap code.tree_of (sym (of ∙ is ∙ tree_written tokens found.0 found.1)) ∙ tree_of-postfix node in
    subst (IsTreeOf tokens) same found.1

-- a word that a node has not stands at no tree's front
pub not_first : (tokens rest : List Token) (first : First) (node : DepexTree) → tokens ≡ token.First first ∷ rest → IsTreeOf tokens node → ⊥
not_first tokens rest first node e is =
    let never : tree_cause zero Due (token.First first ∷ rest) ≡ None = ap (tree_cause zero Due) (sym e) ∙ tree_passes tokens node is in
    absurd cc

pub code_there : (words : List Token) (opcodes : List Opcode) (read : Option DepexTree) → tree_cause zero Due words ≡ None → opcodes ≡ emitted [] Due words → IfNone read ((node : DepexTree) → postfix node ≡ opcodes → ⊥)
    → IsSome read
code_there words opcodes (Some node) none is never = search rules
code_there words opcodes None none is never = let found = some_code words opcodes none is in absurd (never found.0 found.1)
