-- An expression as it is written, with its brackets: NOT binds first, AND and OR alike, and both are grouped from the right (EDK2, `GenDepex`).
use Rattle.std.specs.Prelude.{Bool, true, false, ◌&&◌, List, [], ◌∷◌, ◌++◌}
use Rattle.depex_code.specs.Tree.{DepexTree, True, False, Push, Not, And, Or}
use Rattle.source_words.specs.{declared.depex.token.Leaf.Leaf, declared.depex.token.Operator.Operator, declared.depex.token.Token.Token}
use Rattle.source_words.specs.declared.depex.token.Leaf.TheVariants as leaf
use Rattle.source_words.specs.declared.depex.token.Operator.TheVariants as operator
use Rattle.source_words.specs.declared.depex.token.Token.TheVariants as token

pub data Written : Type 0 where
  Alone : Leaf → Written  -- TRUE, FALSE or a GUID
  Negated : Written → Written  -- NOT and an operand
  Bracketed : Written → Written
  Joined : Operator → Written → Written → Written  -- an operand, AND or OR, and all that follows

-- what may stand behind NOT, or before AND and OR
abbrev pub is_operand : Written → Bool
is_operand (Alone one) = true
is_operand (Negated one) = true
is_operand (Bracketed one) = true
is_operand (Joined operator first others) = false

-- operands stand where operands are due
abbrev pub is_grouped : Written → Bool
is_grouped (Alone one) = true
is_grouped (Negated one) = is_operand one && is_grouped one
is_grouped (Bracketed one) = is_grouped one
is_grouped (Joined operator first others) = (is_operand first && is_grouped first) && is_grouped others

-- its words
abbrev pub tokens_of : Written → List Token
tokens_of (Alone one) = token.Leaf one ∷ []
tokens_of (Negated one) = token.Not ∷ tokens_of one
tokens_of (Bracketed one) = token.Open ∷ (tokens_of one ++ token.Close ∷ [])
tokens_of (Joined operator first others) = tokens_of first ++ token.Operator operator ∷ tokens_of others

abbrev pub leaf_tree : Leaf → DepexTree
leaf_tree leaf.True = True
leaf_tree leaf.False = False
leaf_tree (leaf.Push guid) = Push guid

abbrev pub operator_tree : Operator → DepexTree → DepexTree → DepexTree
operator_tree operator.And first second = And first second
operator_tree operator.Or first second = Or first second

-- the tree that it means
abbrev pub tree_of : Written → DepexTree
tree_of (Alone one) = leaf_tree one
tree_of (Negated one) = Not (tree_of one)
tree_of (Bracketed one) = tree_of one
tree_of (Joined operator first others) = operator_tree operator (tree_of first) (tree_of others)
