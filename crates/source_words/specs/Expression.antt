-- What the words of an expression say.
use Rattle.std.specs.Prelude.{◌≡◌, ◌⊎◌, ℕ, zero, ◌<◌, ⊤, true, false, List, [], ◌∷◌, ◌++◌, length, Option, Some, None, Result, Ok, Err}
use Rattle.pi_base.specs.{declared.guid.Guid.Guid, declared.phase.Phase.Phase}
use Rattle.depex_code.specs.{declared.opcode.Opcode.Opcode, declared.depex.Depex.Depex, Tree.DepexTree}
use Rattle.depex_code.specs.declared.depex.Depex.TheVariants as depex
use Rattle.depex_code.specs.Expression.{IsOfPhase, instructions}
use Rattle.source_words.specs.declared.depex.fault.ExpressionFault.{ExpressionFault}
use Rattle.source_words.specs.declared.depex.fault.ExpressionFault.TheVariants.{Memory, TooLong}
use Rattle.source_words.specs.{declared.depex.walk.Stage.TheVariants.Due, declared.depex.token.Leaf.TheVariants.Push}
use Rattle.source_words.specs.{declared.depex.token.First.First as FirstWord, declared.depex.token.Token.Token, Tokens.tokens}
use Rattle.source_words.specs.declared.depex.token.First.TheVariants.{Sor, Before, After}
use Rattle.source_words.specs.declared.depex.token.Token.TheVariants.{Leaf, First, End}
use Rattle.source_words.specs.Written.{Written, is_grouped, tokens_of, tree_of}
use Rattle.source_words.specs.Cause.{IsCause, tree_cause, end_cause, beside_cause, expression_cause}
use Rattle.source_words.specs.Emission.{emitted}

-- END, or nothing
abbrev pub IsEnd : List Token → Type 0
IsEnd tokens = (tokens ≡ []) ⊎ (tokens ≡ End ∷ [])

-- the words are those of an expression as it is written, and maybe END, and this is its tree
pub record IsTreeOf (tokens : List Token) (tree : DepexTree) : Type 0 where
  pub written : Written
  pub end : List Token
  pub grouped : is_grouped written ≡ true
  pub is_end : IsEnd end
  pub here : tokens ≡ tokens_of written ++ end
  pub means : tree ≡ tree_of written

-- a GUID, and maybe END
abbrev pub IsGuidOf : List Token → Guid → Type 0
IsGuidOf tokens guid = (end : List Token) × IsEnd end × (tokens ≡ Leaf (Push guid) ∷ end)

-- a word, and what stands behind it
abbrev pub IsBehind : FirstWord → List Token → (List Token → Type 0) → Type 0
IsBehind first tokens Is = (rest : List Token) × (tokens ≡ First first ∷ rest) × Is rest

-- the words of an expression
abbrev pub AreOf : List Token → Depex → Type 0
AreOf tokens (depex.Before guid) = IsBehind Before tokens (λ rest. IsGuidOf rest guid)
AreOf tokens (depex.After guid) = IsBehind After tokens (λ rest. IsGuidOf rest guid)
AreOf tokens (depex.Expr true tree) = IsBehind Sor tokens (λ rest. IsTreeOf rest tree)
AreOf tokens (depex.Expr false tree) = IsTreeOf tokens tree

-- the text says an expression of the phase
abbrev pub Says : Phase → List ℕ → Depex → Type 0
Says phase text expression = IsOfPhase phase expression × AreOf (tokens text) expression

-- the answer is the expression, or memory ran out
abbrev pub GivesBack : Depex → Result Depex ExpressionFault → Type 0
GivesBack expression (Ok read) = read ≡ expression
GivesBack expression (Err fault) = fault ≡ Memory

-- the text says an expression of more opcodes than it may have
abbrev pub SaysLonger : Phase → List ℕ → Type 0
SaysLonger phase text = (expression : Depex) × Says phase text expression × (1024 < length (instructions expression))

-- why a text says none: this is wrong with the first word with which none goes on, or with the end; or it says a longer one; or memory ran out
abbrev pub IsRefused : Phase → List ℕ → ExpressionFault → Type 0
IsRefused phase text Memory = ⊤
IsRefused phase text fault = (expression_cause phase (tokens text) ≡ Some fault) ⊎ ((fault ≡ TooLong) × SaysLonger phase text)

-- a value, or what is wrong
abbrev pub Finds : {A : Type 0} → (A → Type 0) → Option ExpressionFault → Result A ExpressionFault → Type 0
Finds Is cause (Ok value) = Is value
Finds Is cause (Err fault) = IsCause cause fault

abbrev pub FindsCode : List Token → Result (List Opcode) ExpressionFault → Type 0
FindsCode tokens result = Finds (λ code. (tree_cause zero Due tokens ≡ None) × (code ≡ emitted [] Due tokens)) (tree_cause zero Due tokens) result

abbrev pub FindsTree : List Token → Result DepexTree ExpressionFault → Type 0
FindsTree tokens result = Finds (IsTreeOf tokens) (tree_cause zero Due tokens) result

abbrev pub FindsEnd : List Token → Result (Unit {0}) ExpressionFault → Type 0
FindsEnd tokens result = Finds (λ _. end_cause tokens ≡ None) (end_cause tokens) result

abbrev pub FindsGuid : List Token → Result Guid ExpressionFault → Type 0
FindsGuid tokens result = Finds (IsGuidOf tokens) (beside_cause tokens) result

abbrev pub FindsDepex : Phase → List Token → Option ExpressionFault → Result Depex ExpressionFault → Type 0
FindsDepex phase tokens cause result = Finds (λ expression. IsOfPhase phase expression × AreOf tokens expression) cause result
