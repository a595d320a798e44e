use Rattle.std.proofs.Common.{◌≡◌, ℕ, ◌<◌, get_or, true}
use Rattle.source_words.specs.Words.{is_inner}
use Rattle.source_words.proofs.word.inner_len.Given as goal

abbrev pub invariant-search : goal.invariant-search
invariant-search l = (k : ℕ) → k < l.place → is_inner (get_or l.line k 0) ≡ true
