-- The words that are printed of an expression say it.
use Rattle.std.proofs.Common.{◌≡◌, inl, ℕ, true, false, List, [], ◌∷◌, ◌++◌, map, refl, sym, ap, ◌∙◌, arith, append_assoc, codes, append-nil}
use Rattle.pi_base.specs.{declared.guid.Guid.Guid, WordText.guid_text}
use Rattle.line_words.specs.PrintedWords.{IsGuid}
use Rattle.depex_code.specs.declared.depex.Depex.{Depex}
use Rattle.depex_code.specs.declared.depex.Depex.TheVariants as depex
use Rattle.depex_code.specs.Tree.{DepexTree, True, False, Push, Not, And, Or}
use Rattle.asm_text.specs.ExpressionText.{bracketed, tree_text, expression_text}
use Rattle.asm_text.specs.ReadTree.{IsTree, IsExpression}
use Rattle.source_words.specs.{Words.words, declared.depex.token.Token.Token, declared.depex.token.Operator.Operator, Tokens.token_of}
use Rattle.source_words.specs.declared.depex.token.Token.TheVariants as token
use Rattle.source_words.specs.declared.depex.token.Leaf.TheVariants as leaf
use Rattle.source_words.specs.declared.depex.token.Operator.TheVariants as operator
use Rattle.source_words.specs.declared.depex.token.First.TheVariants as first
use Rattle.source_words.specs.Written.{Written, Alone, Negated, Bracketed, Joined, is_operand, is_grouped, tokens_of, tree_of}
use Rattle.source_words.specs.Expression.{AreOf, IsTreeOf}
use Rattle.source_words.proofs.LineWords.{Stands, IsClear, clear_of, both_clear, word_then}
use Rattle.source_words.proofs.{Characters.guid_word, ValueWords.no_keyword, ValueWords.guid_read}

-- a tree as it is printed
abbrev written : DepexTree → Written
written True = Alone leaf.True
written False = Alone leaf.False
written (Push guid) = Alone (leaf.Push guid)
written (Not node) = Negated (written node)
written (And one other) = Bracketed (Joined operator.And (written one) (written other))
written (Or one other) = Bracketed (Joined operator.Or (written one) (written other))

operand_is : (node : DepexTree) → is_operand (written node) ≡ true
operand_is True = refl
operand_is False = refl
operand_is (Push guid) = refl
operand_is (Not node) = refl
operand_is (And one other) = refl
operand_is (Or one other) = refl

grouped_is : (node : DepexTree) → is_grouped (written node) ≡ true
grouped_is True = refl
grouped_is False = refl
grouped_is (Push guid) = refl
grouped_is (Not node) = rw (operand_is node, grouped_is node) refl
grouped_is (And one other) = rw (operand_is one, grouped_is one, grouped_is other) refl
grouped_is (Or one other) = rw (operand_is one, grouped_is one, grouped_is other) refl

means_is : (node : DepexTree) → tree_of (written node) ≡ node
means_is True = refl
means_is False = refl
means_is (Push guid) = refl
means_is (Not node) = ap Not (means_is node)
means_is (And one other) = ap (λ x. And x (tree_of (written other))) (means_is one) ∙ ap (And one) (means_is other)
means_is (Or one other) = ap (λ x. Or x (tree_of (written other))) (means_is one) ∙ ap (Or one) (means_is other)

-- a GUID is the word for it
guid_is : (guid : Guid) → IsGuid guid → token_of (guid_text guid) ≡ token.Leaf (leaf.Push guid)
unfolding token_of
guid_is guid is =
    rw (
      no_keyword guid (codes "(") (λ e. absurd (omega (arith, e))),
      no_keyword guid (codes ")") (λ e. absurd (omega (arith, e))),
      no_keyword guid (codes "not") (λ e. absurd (omega (arith, e))),
      no_keyword guid (codes "and") (λ e. absurd (omega (arith, e))),
      no_keyword guid (codes "or") (λ e. absurd (omega (arith, e))),
      no_keyword guid (codes "true") (λ e. absurd (omega (arith, e))),
      no_keyword guid (codes "false") (λ e. absurd (omega (arith, e))),
      no_keyword guid (codes "end") (λ e. absurd (omega (arith, e))),
      no_keyword guid (codes "sor") (λ e. absurd (omega (arith, e))),
      no_keyword guid (codes "before") (λ e. absurd (omega (arith, e))),
      no_keyword guid (codes "after") (λ e. absurd (omega (arith, e))),
      guid_read guid is,
    ) refl

-- the tokens of a text
abbrev tokens : List ℕ → List Token
tokens text = map token_of (words text)

-- fixed words in front
true_then : (rest : List ℕ) → Stands rest → tokens (codes "true" ++ rest) ≡ token.Leaf leaf.True ∷ tokens rest
unfolding token_of
true_then rest stands = ap (map token_of) (word_then (codes "true") rest (omega arith, refl) stands)

false_then : (rest : List ℕ) → Stands rest → tokens (codes "false" ++ rest) ≡ token.Leaf leaf.False ∷ tokens rest
unfolding token_of
false_then rest stands = ap (map token_of) (word_then (codes "false") rest (omega arith, refl) stands)

not_then : (rest : List ℕ) → tokens (codes "not " ++ rest) ≡ token.Not ∷ tokens rest
unfolding token_of
not_then rest = ap (map token_of) (word_then (codes "not") (32 ∷ rest) (omega arith, refl) refl)

and_then : (rest : List ℕ) → tokens (codes " and " ++ rest) ≡ token.Operator operator.And ∷ tokens rest
unfolding token_of
and_then rest = ap (map token_of) (word_then (codes "and") (32 ∷ rest) (omega arith, refl) refl)

or_then : (rest : List ℕ) → tokens (codes " or " ++ rest) ≡ token.Operator operator.Or ∷ tokens rest
unfolding token_of
or_then rest = ap (map token_of) (word_then (codes "or") (32 ∷ rest) (omega arith, refl) refl)

open_then : (rest : List ℕ) → tokens (codes "(" ++ rest) ≡ token.Open ∷ tokens rest
unfolding token_of
open_then rest = refl

close_then : (rest : List ℕ) → tokens (codes ")" ++ rest) ≡ token.Close ∷ tokens rest
unfolding token_of
close_then rest = refl

guid_then : (guid : Guid) (rest : List ℕ) → IsGuid guid → Stands rest → tokens (guid_text guid ++ rest) ≡ token.Leaf (leaf.Push guid) ∷ tokens rest
guid_then guid rest is stands = ap (map token_of) (word_then (guid_text guid) rest (guid_word guid) stands) ∙ ap (λ t. t ∷ tokens rest) (guid_is guid is)

-- an operator's text in brackets, and its words
abbrev IsBetween : List ℕ → Operator → Type 0
IsBetween between op = ((rest : List ℕ) → tokens (between ++ rest) ≡ token.Operator op ∷ tokens rest) × ((rest : List ℕ) → Stands (between ++ rest))

-- the words of a tree's text, and those of what follows it
abbrev IsReadThen : DepexTree → Type 0
IsReadThen node = (rest : List ℕ) → Stands rest → tokens (tree_text node ++ rest) ≡ tokens_of (written node) ++ tokens rest

pair_then : (one other : DepexTree) (between : List ℕ) (op : Operator) (rest : List ℕ) → IsReadThen one → IsReadThen other → IsBetween between op
    → tokens (bracketed (tree_text one) between (tree_text other) ++ rest) ≡ tokens_of (Bracketed (Joined op (written one) (written other))) ++ tokens rest
pair_then one other between op rest read_one read_other op_is =
    let first = tree_text one in
    let second = tree_text other in
    let a = tokens_of (written one) in
    let b = tokens_of (written other) in
    let close : List ℕ = codes ")" in
    let apart : bracketed first between second ++ rest ≡ codes "(" ++ (first ++ (between ++ (second ++ (close ++ rest)))) =
    ap (λ t. codes "(" ++ t) (append_assoc first (between ++ (second ++ close)) rest
    ∙ ap (λ t. first ++ t) (append_assoc between (second ++ close) rest ∙ ap (λ t. between ++ t) (append_assoc second close rest))) in
    let read_second : tokens (second ++ (close ++ rest)) ≡ b ++ token.Close ∷ tokens rest =
    read_other (close ++ rest) refl ∙ ap (λ ts. b ++ ts) (close_then rest) in
    let read_first : tokens (first ++ (between ++ (second ++ (close ++ rest)))) ≡ a ++ token.Operator op ∷ (b ++ token.Close ∷ tokens rest) =
    read_one (between ++ (second ++ (close ++ rest))) (op_is.1 (second ++ (close ++ rest)))
    ∙ ap (λ ts. a ++ ts) (op_is.0 (second ++ (close ++ rest)) ∙ ap (λ ts. token.Operator op ∷ ts) read_second) in
    let joined : (a ++ token.Operator op ∷ b) ++ token.Close ∷ [] ≡ a ++ (token.Operator op ∷ (b ++ token.Close ∷ [])) = append_assoc a (token.Operator op ∷ b) (token.Close ∷ []) in
    ap tokens apart ∙ open_then (first ++ (between ++ (second ++ (close ++ rest)))) ∙ ap (λ ts. token.Open ∷ ts) read_first
    ∙ ap (λ ts. token.Open ∷ ts)
    (ap (λ ts. a ++ (token.Operator op ∷ ts)) (sym (append_assoc b (token.Close ∷ []) (tokens rest)))
    ∙ sym (append_assoc a (token.Operator op ∷ (b ++ token.Close ∷ [])) (tokens rest))
    ∙ ap (λ ts. ts ++ tokens rest) (sym joined))

tree_then : (node : DepexTree) (rest : List ℕ) → IsTree node → Stands rest → tokens (tree_text node ++ rest) ≡ tokens_of (written node) ++ tokens rest
tree_then True rest is stands = true_then rest stands
tree_then False rest is stands = false_then rest stands
tree_then (Push guid) rest is stands = guid_then guid rest is stands
tree_then (Not node) rest is stands = not_then (tree_text node ++ rest) ∙ ap (λ ts. token.Not ∷ ts) (tree_then node rest is stands)
tree_then (And one other) rest is stands = pair_then one other (codes " and ") operator.And rest (λ r s. tree_then one r is.0 s) (λ r s. tree_then other r is.1 s) (and_then, λ more. refl)
tree_then (Or one other) rest is stands = pair_then one other (codes " or ") operator.Or rest (λ r s. tree_then one r is.0 s) (λ r s. tree_then other r is.1 s) (or_then, λ more. refl)

tree_is : (node : DepexTree) → IsTree node → IsTreeOf (tokens (tree_text node)) node
tree_is node is = record {
  written = written node;
  end = [];
  grouped = grouped_is node;
  is_end = inl refl;
  here = ap tokens (sym (append-nil (tree_text node))) ∙ tree_then node [] is tt;
  means = sym (means_is node);
}

sor_then : (rest : List ℕ) → tokens (codes "sor " ++ rest) ≡ token.First first.Sor ∷ tokens rest
unfolding token_of
sor_then rest = ap (map token_of) (word_then (codes "sor") (32 ∷ rest) (omega arith, refl) refl)

before_then : (rest : List ℕ) → tokens (codes "before " ++ rest) ≡ token.First first.Before ∷ tokens rest
unfolding token_of
before_then rest = ap (map token_of) (word_then (codes "before") (32 ∷ rest) (omega arith, refl) refl)

after_then : (rest : List ℕ) → tokens (codes "after " ++ rest) ≡ token.First first.After ∷ tokens rest
unfolding token_of
after_then rest = ap (map token_of) (word_then (codes "after") (32 ∷ rest) (omega arith, refl) refl)

guid_alone : (guid : Guid) → IsGuid guid → tokens (guid_text guid) ≡ token.Leaf (leaf.Push guid) ∷ []
guid_alone guid is = ap tokens (sym (append-nil (guid_text guid))) ∙ guid_then guid [] is tt

-- the words of an expression's text are its
pub expression_is : (e : Depex) → IsExpression e → AreOf (tokens (expression_text e)) e
expression_is (depex.Before guid) is = (tokens (guid_text guid), before_then (guid_text guid), ([], inl refl, guid_alone guid is))
expression_is (depex.After guid) is = (tokens (guid_text guid), after_then (guid_text guid), ([], inl refl, guid_alone guid is))
expression_is (depex.Expr true node) is = (tokens (tree_text node), sor_then (tree_text node), tree_is node is)
expression_is (depex.Expr false node) is = tree_is node is

-- each byte of its text is the space or above it
guid_clear : (guid : Guid) → IsClear (guid_text guid)
guid_clear guid = clear_of (guid_text guid) (guid_word guid).1

pair_clear : (one between other : List ℕ) → IsClear one → IsClear between → IsClear other → IsClear (bracketed one between other)
pair_clear one between other a b c =
    both_clear (codes "(") (one ++ (between ++ (other ++ codes ")"))) refl
    (both_clear one (between ++ (other ++ codes ")")) a (both_clear between (other ++ codes ")") b (both_clear other (codes ")") c refl)))

tree_clear : (node : DepexTree) → IsClear (tree_text node)
tree_clear True = refl
tree_clear False = refl
tree_clear (Push guid) = guid_clear guid
tree_clear (Not node) = both_clear (codes "not ") (tree_text node) refl (tree_clear node)
tree_clear (And one other) = pair_clear (tree_text one) (codes " and ") (tree_text other) (tree_clear one) refl (tree_clear other)
tree_clear (Or one other) = pair_clear (tree_text one) (codes " or ") (tree_text other) (tree_clear one) refl (tree_clear other)

pub expression_clear : (e : Depex) → IsClear (expression_text e)
expression_clear (depex.Before guid) = both_clear (codes "before ") (guid_text guid) refl (guid_clear guid)
expression_clear (depex.After guid) = both_clear (codes "after ") (guid_text guid) refl (guid_clear guid)
expression_clear (depex.Expr true node) = both_clear (codes "sor ") (tree_text node) refl (tree_clear node)
expression_clear (depex.Expr false node) = tree_clear node
