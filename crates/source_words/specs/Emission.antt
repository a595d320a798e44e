-- The order in which opcodes are written (EDK2, `GenDepex`): an operator waits until all that it binds stands before it. What waits stands on a stack, the last one first.
use Rattle.std.specs.Prelude.{◌≡◌, ◌+◌, ◌≤◌, List, [], ◌∷◌, ◌++◌, Option, Some, None, Result, Ok, Err}
use Rattle.depex_code.specs.declared.opcode.Opcode.{Opcode}
use Rattle.depex_code.specs.declared.opcode.Opcode.TheVariants as opcode
use Rattle.source_words.specs.{declared.depex.fault.ExpressionFault.ExpressionFault, declared.depex.stack.Waiting.Waiting}
use Rattle.source_words.specs.declared.depex.stack.Waiting.TheVariants as waiting
use Rattle.source_words.specs.{declared.depex.walk.Stage.Stage, declared.depex.walk.Walk.Walk, declared.depex.token.Leaf.Leaf as LeafWord}
use Rattle.source_words.specs.declared.depex.walk.Stage.TheVariants.{Due, Ended, Over}
use Rattle.source_words.specs.declared.depex.token.Leaf.TheVariants as leaf
use Rattle.source_words.specs.{declared.depex.token.Operator.Operator as OperatorWord, declared.depex.token.Token.Token}
use Rattle.source_words.specs.declared.depex.token.Operator.TheVariants as operator
use Rattle.source_words.specs.declared.depex.token.Token.TheVariants.{Leaf, Not, Open, Close, Operator}
use Rattle.source_words.specs.Cause.{IsCause, tree_cause}

abbrev pub leaf_opcode : LeafWord → Opcode
leaf_opcode leaf.True = opcode.True
leaf_opcode leaf.False = opcode.False
leaf_opcode (leaf.Push guid) = opcode.Push guid

abbrev pub operator_opcode : OperatorWord → Opcode
operator_opcode operator.And = opcode.And
operator_opcode operator.Or = opcode.Or

-- the opcode of what waits; a bracket has none
abbrev pub opcode_of : Waiting → Option Opcode
opcode_of waiting.Negation = Some opcode.Not
opcode_of waiting.Bracket = None
opcode_of (waiting.Between operator) = Some (operator_opcode operator)

-- the NOTs on top of the stack, and what is below them
abbrev pub nots : List Waiting → List Opcode
nots [] = []
nots (waiting.Negation ∷ stack) = opcode.Not ∷ nots stack
nots (waiting.Bracket ∷ stack) = []
nots (waiting.Between operator ∷ stack) = []

abbrev pub behind_nots : List Waiting → List Waiting
behind_nots [] = []
behind_nots (waiting.Negation ∷ stack) = behind_nots stack
behind_nots (waiting.Bracket ∷ stack) = waiting.Bracket ∷ stack
behind_nots (waiting.Between operator ∷ stack) = waiting.Between operator ∷ stack

-- what waits down to the last bracket, and what is below that
abbrev pub operators : List Waiting → List Opcode
operators [] = []
operators (waiting.Negation ∷ stack) = opcode.Not ∷ operators stack
operators (waiting.Bracket ∷ stack) = []
operators (waiting.Between operator ∷ stack) = operator_opcode operator ∷ operators stack

abbrev pub below_bracket : List Waiting → List Waiting
below_bracket [] = []
below_bracket (waiting.Negation ∷ stack) = below_bracket stack
below_bracket (waiting.Bracket ∷ stack) = stack
below_bracket (waiting.Between operator ∷ stack) = below_bracket stack

-- the opcodes of what is to come of a tree's words
abbrev pub emitted : List Waiting → Stage → List Token → List Opcode
emitted stack Due (Leaf one ∷ rest) = leaf_opcode one ∷ emitted stack Ended rest
emitted stack Due (Not ∷ rest) = emitted (waiting.Negation ∷ stack) Due rest
emitted stack Due (Open ∷ rest) = emitted (waiting.Bracket ∷ stack) Due rest
emitted stack Due _ = []
emitted stack Ended (Operator operator ∷ rest) = nots stack ++ emitted (waiting.Between operator ∷ behind_nots stack) Due rest
emitted stack Ended (Close ∷ rest) = operators stack ++ emitted (below_bracket stack) Ended rest
emitted stack Ended _ = operators stack
emitted stack Over _ = operators stack

-- a word more was gone through, or it is the one at fault
abbrev pub Steps : Walk → Token → Result (Unit {0}) ExpressionFault → Walk → Type 0
Steps old token (Ok _) new =
    (new.depth ≤ old.depth + 1) × ((rest : List Token) → (tree_cause old.depth old.stage (token ∷ rest) ≡ tree_cause new.depth new.stage rest)
    × (old.code ++ emitted old.waiting old.stage (token ∷ rest) ≡ new.code ++ emitted new.waiting new.stage rest))
Steps old token (Err fault) new = (rest : List Token) → IsCause (tree_cause old.depth old.stage (token ∷ rest)) fault

-- no word is left
abbrev pub Finishes : Walk → Result (List Opcode) ExpressionFault → Type 0
Finishes walk (Ok code) = (tree_cause walk.depth walk.stage [] ≡ None) × (code ≡ walk.code ++ emitted walk.waiting walk.stage [])
Finishes walk (Err fault) = IsCause (tree_cause walk.depth walk.stage []) fault
