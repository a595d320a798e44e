-- Reading the text of an expression (own).
use Rattle.std.specs.Prelude.{◌≡◌, ℕ, ◌<◌, ⊤, List, length, Result, Ok, Err}
use Rattle.depex_code.specs.{declared.depex.Depex.Depex, Expression.instructions}
use Rattle.asm_text.specs.{declared.fault.TextFault.TextFault, ExpressionText.depex_text, BadLine.IsBadLine, ReadTree.IsExpression}
use Rattle.asm_text.specs.declared.fault.TextFault.TheVariants.{Bad, TooLong, Memory}

-- the text is that of an expression
abbrev pub IsDepexOf : List ℕ → Depex → Type 0
IsDepexOf text depex = IsExpression depex × (text ≡ depex_text depex)

abbrev pub IsDepexText : List ℕ → Type 0
IsDepexText text = (depex : Depex) × IsDepexOf text depex

-- the answer is the expression, or memory ran out
abbrev pub GivesBack : Depex → Result Depex TextFault → Type 0
GivesBack depex (Ok read) = read ≡ depex
GivesBack depex (Err fault) = fault ≡ Memory

-- why nothing was read
abbrev pub IsDepexRefused : List ℕ → TextFault → Type 0
IsDepexRefused text (Bad line) = IsBadLine IsDepexText text line
IsDepexRefused text TooLong = (depex : Depex) × IsDepexOf text depex × (1024 < length (instructions depex))
IsDepexRefused text Memory = ⊤
