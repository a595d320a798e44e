-- Dependency expressions as text (own): a tree by its parts, with single spaces and every operator of two operands in brackets.
use Rattle.std.specs.Prelude.{ℕ, Bool, true, false, List, [], ◌∷◌, ◌++◌, codes}
use Rattle.depex_code.specs.declared.depex.Depex.{Depex}
use Rattle.depex_code.specs.declared.depex.Depex.TheVariants.{Before, After, Expr}
use Rattle.depex_code.specs.Tree.{DepexTree, True, False, Push, Not, And, Or}
use Rattle.pi_base.specs.WordText.{guid_text}

-- two texts in brackets, with a word between
abbrev pub bracketed : List ℕ → List ℕ → List ℕ → List ℕ
bracketed first between second = codes "(" ++ (first ++ (between ++ (second ++ codes ")")))

abbrev pub tree_text : DepexTree → List ℕ
tree_text True = codes "true"
tree_text False = codes "false"
tree_text (Push guid) = guid_text guid
tree_text (Not node) = codes "not " ++ tree_text node
tree_text (And first second) = bracketed (tree_text first) (codes " and ") (tree_text second)
tree_text (Or first second) = bracketed (tree_text first) (codes " or ") (tree_text second)

-- the word before a tree that waits for a request
abbrev pub sor_text : Bool → List ℕ
sor_text true = codes "sor "
sor_text false = []

-- an expression in one line, without its line feed
abbrev pub expression_text : Depex → List ℕ
expression_text (Before guid) = codes "before " ++ guid_text guid
expression_text (After guid) = codes "after " ++ guid_text guid
expression_text (Expr sor tree) = sor_text sor ++ tree_text tree

-- the text of an expression
abbrev pub depex_text : Depex → List ℕ
depex_text depex = expression_text depex ++ 10 ∷ []
