-- A text says one expression, and says one where nothing is wrong with it.
use Rattle.std.proofs.Common.{◌≡◌, ◌⊎◌, inl, inr, ℕ, zero, ◌<◌, ◌≤◌, true, false, List, [], ◌∷◌, length, Some, None, Result, Ok, Err, refl, sym, ap, subst, ◌∙◌, arith, IfOk, IfErr}
use Rattle.pi_base.specs.{declared.guid.Guid.Guid, declared.phase.Phase.Phase}
use Rattle.pi_base.specs.declared.phase.Phase.TheVariants.{Pei, Dxe}
use Rattle.depex_code.specs.{declared.depex.Depex.Depex, Tree.DepexTree, Expression.IsOfPhase, Expression.instructions}
use Rattle.depex_code.specs.declared.depex.Depex.TheVariants as depex
use Rattle.source_words.specs.{declared.depex.fault.ExpressionFault.ExpressionFault, declared.depex.walk.Stage.TheVariants.Due}
use Rattle.source_words.specs.declared.depex.fault.ExpressionFault.TheVariants.{NoOperand, NoGuid, Extra, Bracket, OtherPhase, TooLong, Memory}
use Rattle.source_words.specs.declared.depex.token.Leaf.TheVariants as leaf
use Rattle.source_words.specs.declared.depex.token.First.TheVariants as first
use Rattle.source_words.specs.{declared.depex.token.Token.Token, Tokens.tokens}
use Rattle.source_words.specs.declared.depex.token.Token.TheVariants as token
use Rattle.source_words.specs.Cause.{IsCause, tree_cause, beside_cause, expression_cause}
use Rattle.source_words.specs.Expression.{IsGuidOf, IsTreeOf, AreOf, Says, IsRefused, GivesBack}
use Rattle.source_words.proofs.Parts.{no_end_cause, end_has_no_cause}
use Rattle.source_words.proofs.Trees.{one_tree, tree_passes, some_tree, not_first}

-- words that a tree begins with have the causes of a tree
plain_cause : (phase : Phase) (words : List Token) → tree_cause zero Due words ≡ None → expression_cause phase words ≡ None
plain_cause phase [] none = none
plain_cause phase (token.Leaf one ∷ rest) none = none
plain_cause phase (token.Not ∷ rest) none = none
plain_cause phase (token.Open ∷ rest) none = none
plain_cause phase (token.Close ∷ rest) none = none
plain_cause phase (token.Operator operator ∷ rest) none = none
plain_cause phase (token.First first ∷ rest) none = absurd cc
plain_cause phase (token.End ∷ rest) none = none
plain_cause phase (token.Other ∷ rest) none = none

guid_passes : (rest : List Token) (guid : Guid) → IsGuidOf rest guid → beside_cause rest ≡ None
guid_passes rest guid is = ap beside_cause is.2 ∙ end_has_no_cause is.0 is.1

pub are_pass : (phase : Phase) (words : List Token) (expression : Depex) → IsOfPhase phase expression → AreOf words expression → expression_cause phase words ≡ None
are_pass Pei words (depex.Before guid) suits are = absurd suits
are_pass Pei words (depex.After guid) suits are = absurd suits
are_pass Pei words (depex.Expr true node) suits are = absurd cc
are_pass Dxe words (depex.Before guid) suits are = ap (expression_cause Dxe) are.1 ∙ guid_passes are.0 guid are.2
are_pass Dxe words (depex.After guid) suits are = ap (expression_cause Dxe) are.1 ∙ guid_passes are.0 guid are.2
are_pass Dxe words (depex.Expr true node) suits are = ap (expression_cause Dxe) are.1 ∙ tree_passes are.0 node are.2
are_pass Pei words (depex.Expr false node) suits are = plain_cause Pei words (tree_passes words node are)
are_pass Dxe words (depex.Expr false node) suits are = plain_cause Dxe words (tree_passes words node are)

pub says_none : (phase : Phase) (text : List ℕ) (expression : Depex) → Says phase text expression → expression_cause phase (tokens text) ≡ None
says_none phase text expression says = are_pass phase (tokens text) expression says.0 says.1

one_guid : (rest more : List Token) (a b : Guid) → rest ≡ more → IsGuidOf rest a → IsGuidOf more b → a ≡ b
one_guid rest more a b e is other =
    let all : token.Leaf (leaf.Push a) ∷ is.0 ≡ token.Leaf (leaf.Push b) ∷ other.0 = sym is.2 ∙ e ∙ other.2 in
    cc

pub are_one : (words : List Token) (a b : Depex) → AreOf words a → AreOf words b → a ≡ b
are_one words (depex.Before x) (depex.Before y) a b = let e : a.0 ≡ b.0 = cc (a.1, b.1) in ap depex.Before (one_guid a.0 b.0 x y e a.2 b.2)
are_one words (depex.After x) (depex.After y) a b = let e : a.0 ≡ b.0 = cc (a.1, b.1) in ap depex.After (one_guid a.0 b.0 x y e a.2 b.2)
are_one words (depex.Expr true x) (depex.Expr true y) a b = let e : a.0 ≡ b.0 = cc (a.1, b.1) in ap (depex.Expr true) (one_tree a.0 x y a.2 (subst (λ r. IsTreeOf r y) (sym e) b.2))
are_one words (depex.Expr false x) (depex.Expr false y) a b = ap (depex.Expr false) (one_tree words x y a b)
are_one words (depex.Before x) (depex.After y) a b = absurd (cc (a.1, b.1))
are_one words (depex.Before x) (depex.Expr true y) a b = absurd (cc (a.1, b.1))
are_one words (depex.Before x) (depex.Expr false y) a b = absurd (not_first words a.0 first.Before y a.1 b)
are_one words (depex.After x) (depex.Before y) a b = absurd (cc (a.1, b.1))
are_one words (depex.After x) (depex.Expr true y) a b = absurd (cc (a.1, b.1))
are_one words (depex.After x) (depex.Expr false y) a b = absurd (not_first words a.0 first.After y a.1 b)
are_one words (depex.Expr true x) (depex.Before y) a b = absurd (cc (a.1, b.1))
are_one words (depex.Expr true x) (depex.After y) a b = absurd (cc (a.1, b.1))
are_one words (depex.Expr true x) (depex.Expr false y) a b = absurd (not_first words a.0 first.Sor y a.1 b)
are_one words (depex.Expr false x) (depex.Before y) a b = absurd (not_first words b.0 first.Before x b.1 a)
are_one words (depex.Expr false x) (depex.After y) a b = absurd (not_first words b.0 first.After x b.1 a)
are_one words (depex.Expr false x) (depex.Expr true y) a b = absurd (not_first words b.0 first.Sor x b.1 a)

pub says_one : (phase : Phase) (text : List ℕ) (a b : Depex) → Says phase text a → Says phase text b → a ≡ b
says_one phase text a b says other = are_one (tokens text) a b says.1 other.1

beside_some : (rest : List Token) → beside_cause rest ≡ None → (guid : Guid) × IsGuidOf rest guid
beside_some [] none = absurd cc
beside_some (token.Leaf (leaf.Push guid) ∷ end) none = (guid, (end, no_end_cause end none, refl))
beside_some (token.Leaf leaf.True ∷ end) none = absurd cc
beside_some (token.Leaf leaf.False ∷ end) none = absurd cc
beside_some (token.Not ∷ rest) none = absurd cc
beside_some (token.Open ∷ rest) none = absurd cc
beside_some (token.Close ∷ rest) none = absurd cc
beside_some (token.Operator operator ∷ rest) none = absurd cc
beside_some (token.First first ∷ rest) none = absurd cc
beside_some (token.End ∷ rest) none = absurd cc
beside_some (token.Other ∷ rest) none = absurd cc

-- an expression of the phase
abbrev Some_of : Phase → List Token → Type 0
Some_of phase words = (expression : Depex) × IsOfPhase phase expression × AreOf words expression

plain_suits : (phase : Phase) (node : DepexTree) → IsOfPhase phase (depex.Expr false node)
plain_suits Pei node = refl
plain_suits Dxe node = tt

plain_some : (phase : Phase) (words : List Token) → tree_cause zero Due words ≡ None → Some_of phase words
plain_some phase words none = let found = some_tree words none in (depex.Expr false found.0, plain_suits phase found.0, found.1)

are_some : (phase : Phase) (words : List Token) → expression_cause phase words ≡ None → Some_of phase words
are_some Pei (token.First first ∷ rest) none = absurd cc
are_some Dxe (token.First first.Sor ∷ rest) none = let found = some_tree rest none in (depex.Expr true found.0, tt, (rest, refl, found.1))
are_some Dxe (token.First first.Before ∷ rest) none = let found = beside_some rest none in (depex.Before found.0, tt, (rest, refl, found.1))
are_some Dxe (token.First first.After ∷ rest) none = let found = beside_some rest none in (depex.After found.0, tt, (rest, refl, found.1))
are_some phase [] none = plain_some phase [] none
are_some phase (token.Leaf one ∷ rest) none = plain_some phase (token.Leaf one ∷ rest) none
are_some phase (token.Not ∷ rest) none = plain_some phase (token.Not ∷ rest) none
are_some phase (token.Open ∷ rest) none = plain_some phase (token.Open ∷ rest) none
are_some phase (token.Close ∷ rest) none = plain_some phase (token.Close ∷ rest) none
are_some phase (token.Operator operator ∷ rest) none = plain_some phase (token.Operator operator ∷ rest) none
are_some phase (token.End ∷ rest) none = plain_some phase (token.End ∷ rest) none
are_some phase (token.Other ∷ rest) none = plain_some phase (token.Other ∷ rest) none

pub says_some : (phase : Phase) (text : List ℕ) → expression_cause phase (tokens text) ≡ None → (expression : Depex) × Says phase text expression
says_some phase text none = let found = are_some phase (tokens text) none in (found.0, (found.1, found.2))

pub refused_by : (phase : Phase) (text : List ℕ) (fault : ExpressionFault) → IsCause (expression_cause phase (tokens text)) fault → IsRefused phase text fault
refused_by phase text NoOperand is = inl is
refused_by phase text NoGuid is = inl is
refused_by phase text Extra is = inl is
refused_by phase text Bracket is = inl is
refused_by phase text OtherPhase is = inl is
refused_by phase text TooLong is = inl is
refused_by phase text Memory is = tt

no_refusal : (phase : Phase) (text : List ℕ) (expression : Depex) (fault : ExpressionFault) → Says phase text expression → length (instructions expression) ≤ 1024
    → (expression_cause phase (tokens text) ≡ Some fault) ⊎ ((fault ≡ TooLong) × ((other : Depex) × Says phase text other × (1024 < length (instructions other)))) → ⊥
no_refusal phase text expression fault says few (inl cause) = let none = says_none phase text expression says in let never : None ≡ Some fault = sym none ∙ cause in cc
no_refusal phase text expression fault says few (inr long) =
    let same = says_one phase text (long.1.0) expression long.1.1 says in
    omega (arith, long.1.2, few, ap (λ e. length (instructions e)) same)

pub again_by : (phase : Phase) (text : List ℕ) (expression : Depex) (fault : ExpressionFault) → Says phase text expression → length (instructions expression) ≤ 1024 → IsRefused phase text fault → fault ≡ Memory
again_by phase text expression NoOperand says few is = absurd (no_refusal phase text expression NoOperand says few is)
again_by phase text expression NoGuid says few is = absurd (no_refusal phase text expression NoGuid says few is)
again_by phase text expression Extra says few is = absurd (no_refusal phase text expression Extra says few is)
again_by phase text expression Bracket says few is = absurd (no_refusal phase text expression Bracket says few is)
again_by phase text expression OtherPhase says few is = absurd (no_refusal phase text expression OtherPhase says few is)
again_by phase text expression TooLong says few is = absurd (no_refusal phase text expression TooLong says few is)
again_by phase text expression Memory says few is = refl

pub gives_back : (phase : Phase) (text : List ℕ) (result : Result Depex ExpressionFault) → IfOk result (Says phase text) → IfErr result (IsRefused phase text)
    → (expression : Depex) → Says phase text expression → length (instructions expression) ≤ 1024 → GivesBack expression result
gives_back phase text (Ok read) ok err expression says few = says_one phase text read expression ok says
gives_back phase text (Err fault) ok err expression says few = again_by phase text expression fault says few err
