-- The results of reading (own).
use Rattle.std.specs.Prelude.{◌≡◌, ℕ, ⊤, List, Option, Some, None}
use Rattle.line_words.specs.PrintedWords.{IsGuid}
use Rattle.depex_code.specs.{declared.opcode.Opcode.Opcode, declared.depex.Depex.Depex}
use Rattle.depex_code.specs.declared.depex.Depex.TheVariants as depex
use Rattle.depex_code.specs.Tree.{DepexTree, True, False, Push, Not, And, Or, postfix}
use Rattle.asm_text.specs.ExpressionText.{tree_text, expression_text}

-- each GUID that a tree names has sixteen bytes
abbrev pub IsTree : DepexTree → Type 0
IsTree True = ⊤
IsTree False = ⊤
IsTree (Push guid) = IsGuid guid
IsTree (Not node) = IsTree node
IsTree (And first second) = IsTree first × IsTree second
IsTree (Or first second) = IsTree first × IsTree second

abbrev pub IsExpression : Depex → Type 0
IsExpression (depex.Before guid) = IsGuid guid
IsExpression (depex.After guid) = IsGuid guid
IsExpression (depex.Expr sor tree) = IsTree tree

-- the text is that of a tree
abbrev pub IsTreeOf : List ℕ → DepexTree → Type 0
IsTreeOf text node = IsTree node × (text ≡ tree_text node)

-- the opcodes are those of the tree whose text this is
abbrev pub IsCodeOf : List ℕ → List Opcode → Type 0
IsCodeOf text code = (node : DepexTree) × IsTreeOf text node × (code ≡ postfix node)

abbrev pub FindsCode : List ℕ → Option (List Opcode) → Type 0
FindsCode text (Some code) = IsCodeOf text code
FindsCode text None = (node : DepexTree) → IsTreeOf text node → ⊥

-- the line without its line feed is that of an expression
abbrev pub IsExpressionOf : List ℕ → Depex → Type 0
IsExpressionOf line expression = IsExpression expression × (line ≡ expression_text expression)
