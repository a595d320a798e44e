-- How many brackets are open.
use Rattle.std.proofs.Common.{◌≡◌, ℕ, zero, suc, ◌+◌, List, ◌∷◌, ap, arith}
use Rattle.source_words.specs.{declared.depex.walk.Stage.TheVariants.Ended, declared.depex.token.Token.Token}
use Rattle.source_words.specs.{declared.depex.token.Token.TheVariants.Close, Cause.tree_cause}

pub closes : (d n : ℕ) (rest : List Token) → d ≡ n + 1 → tree_cause d Ended (Close ∷ rest) ≡ tree_cause n Ended rest
closes zero n rest e = absurd (omega arith)
closes (suc d) n rest e = let same : d ≡ n = omega arith in ap (λ m. tree_cause m Ended rest) same
