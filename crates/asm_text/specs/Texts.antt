-- The texts of several trees, one of them the last (own).
use Rattle.std.specs.Prelude.{ℕ, List, [], ◌∷◌, ◌++◌}
use Rattle.depex_code.specs.Tree.{DepexTree}
use Rattle.asm_text.specs.ExpressionText.{tree_text}

-- the texts of a stack of trees, that of its top last
abbrev pub texts_of : List DepexTree → List (List ℕ)
texts_of [] = []
texts_of (top ∷ stack) = texts_of stack ++ tree_text top ∷ []
