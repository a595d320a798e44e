use Rattle.std.proofs.Common.{◌≡◌, ◌++◌, length, flat_map}
use Rattle.source_words.specs.Words.{words}
use Rattle.source_words.proofs.script.word.joined.Given as goal

abbrev pub invariant-words : goal.invariant-words
invariant-words l = l.whole ++ flat_map (λ word. word) (words l.rest) ≡ flat_map (λ word. word) (words l.text)

abbrev pub decreases-words : goal.decreases-words
decreases-words l = length l.rest
