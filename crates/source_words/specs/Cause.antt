-- What is wrong with the first word with which no expression goes on, or with the end of the words.
use Rattle.std.specs.Prelude.{◌≡◌, ⊤, ℕ, zero, suc, ◌+◌, List, [], ◌∷◌, Option, Some, None}
use Rattle.pi_base.specs.{declared.phase.Phase.Phase, declared.phase.Phase.TheVariants.Pei, declared.phase.Phase.TheVariants.Dxe}
use Rattle.source_words.specs.{declared.depex.fault.ExpressionFault.ExpressionFault, declared.depex.walk.Stage.Stage}
use Rattle.source_words.specs.declared.depex.fault.ExpressionFault.TheVariants.{NoOperand, NoGuid, Extra, Bracket, OtherPhase, Memory}
use Rattle.source_words.specs.declared.depex.walk.Stage.TheVariants.{Due, Ended, Over}
use Rattle.source_words.specs.{declared.depex.token.Token.Token, declared.depex.token.Leaf.TheVariants.Push}
use Rattle.source_words.specs.declared.depex.token.Token.TheVariants.{Leaf, Not, Open, Close, Operator, First, End, Other}
use Rattle.source_words.specs.declared.depex.token.First.{First as FirstWord}
use Rattle.source_words.specs.declared.depex.token.First.TheVariants.{Sor, Before, After}

-- this is wrong with words, or memory ran out
abbrev pub IsCause : Option ExpressionFault → ExpressionFault → Type 0
IsCause cause Memory = ⊤
IsCause cause fault = cause ≡ Some fault

-- of a tree's words, with so many brackets open: an operand is due, or one ended, or END stood there
abbrev pub tree_cause : ℕ → Stage → List Token → Option ExpressionFault
tree_cause depth Due (Leaf one ∷ rest) = tree_cause depth Ended rest
tree_cause depth Due (Not ∷ rest) = tree_cause depth Due rest
tree_cause depth Due (Open ∷ rest) = tree_cause (depth + 1) Due rest
tree_cause depth Due (Close ∷ rest) = Some NoOperand
tree_cause depth Due (Operator operator ∷ rest) = Some NoOperand
tree_cause depth Due (First first ∷ rest) = Some Extra
tree_cause depth Due (End ∷ rest) = Some NoOperand
tree_cause depth Due (Other ∷ rest) = Some NoGuid
tree_cause depth Due [] = Some NoOperand
tree_cause depth Ended (Operator operator ∷ rest) = tree_cause depth Due rest
tree_cause zero Ended (Close ∷ rest) = Some Bracket
tree_cause (suc depth) Ended (Close ∷ rest) = tree_cause depth Ended rest
tree_cause zero Ended (End ∷ rest) = tree_cause zero Over rest
tree_cause (suc depth) Ended (End ∷ rest) = Some Bracket
tree_cause depth Ended (Leaf one ∷ rest) = Some Extra
tree_cause depth Ended (Not ∷ rest) = Some Extra
tree_cause depth Ended (Open ∷ rest) = Some Extra
tree_cause depth Ended (First first ∷ rest) = Some Extra
tree_cause depth Ended (Other ∷ rest) = Some Extra
tree_cause zero Ended [] = None
tree_cause (suc depth) Ended [] = Some Bracket
tree_cause depth Over (token ∷ rest) = Some Extra
tree_cause depth Over [] = None

-- of the words behind a whole expression
abbrev pub end_cause : List Token → Option ExpressionFault
end_cause [] = None
end_cause (End ∷ []) = None
end_cause (End ∷ _ ∷ rest) = Some Extra
end_cause (_ ∷ rest) = Some Extra

-- of the words behind BEFORE or AFTER
abbrev pub beside_cause : List Token → Option ExpressionFault
beside_cause [] = Some NoOperand
beside_cause (Leaf (Push guid) ∷ rest) = end_cause rest
beside_cause (_ ∷ rest) = Some NoGuid

-- of the words behind the first one
abbrev pub first_cause : Phase → FirstWord → List Token → Option ExpressionFault
first_cause Pei first rest = Some OtherPhase
first_cause Dxe Sor rest = tree_cause zero Due rest
first_cause Dxe Before rest = beside_cause rest
first_cause Dxe After rest = beside_cause rest

-- of all words
abbrev pub expression_cause : Phase → List Token → Option ExpressionFault
expression_cause phase (First first ∷ rest) = first_cause phase first rest
expression_cause phase tokens = tree_cause zero Due tokens
