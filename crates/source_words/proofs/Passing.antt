-- Nothing is wrong with the words of an expression.
use Rattle.std.proofs.Common.{◌≡◌, ℕ, ◌+◌, List, [], ◌∷◌, ◌++◌, refl, ap, ◌∙◌, append_assoc}
use Rattle.source_words.specs.declared.depex.walk.Stage.TheVariants.{Due, Ended}
use Rattle.source_words.specs.{declared.depex.token.Token.Token, Cause.tree_cause}
use Rattle.source_words.specs.declared.depex.token.Token.TheVariants as token
use Rattle.source_words.specs.Written.{Written, Alone, Negated, Bracketed, Joined, tokens_of}
use Rattle.source_words.proofs.Depths.{closes}

pub passes : (one : Written) (depth : ℕ) (rest : List Token) → tree_cause depth Due (tokens_of one ++ rest) ≡ tree_cause depth Ended rest
passes (Alone leaf) depth rest = refl
passes (Negated one) depth rest = passes one depth rest
passes (Bracketed one) depth rest =
    ap (tree_cause (depth + 1) Due) (append_assoc (tokens_of one) (token.Close ∷ []) rest) ∙ passes one (depth + 1) (token.Close ∷ rest) ∙ closes (depth + 1) depth rest refl
passes (Joined operator first others) depth rest =
    ap (tree_cause depth Due) (append_assoc (tokens_of first) (token.Operator operator ∷ tokens_of others) rest)
    ∙ passes first depth (token.Operator operator ∷ (tokens_of others ++ rest)) ∙ passes others depth rest
