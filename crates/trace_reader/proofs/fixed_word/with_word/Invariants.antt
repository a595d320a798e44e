use Rattle.std.proofs.Common.{◌≡◌, ◌<◌, ℕ, get_or}
use Rattle.trace_reader.proofs.fixed_word.with_word.Given as goal

-- none of the values so far has the word
abbrev pub invariant-values : goal.invariant-values
invariant-values g l = (k : ℕ) (d : g.row.T.Denot) → k < l.value-index → l.word ≡ g.T.FixedWord.text_of (get_or l.value-items k d) → ⊥
