use Rattle.std.proofs.Common.{◌≡◌, ◌≤◌, length}
use Rattle.source_words.specs.Words.{words}
use Rattle.source_words.proofs.word.behind_blanks.Given as goal

abbrev pub invariant-blanks : goal.invariant-blanks
invariant-blanks l = (words l.rest ≡ words l.line) × (length l.rest ≤ length l.line)

abbrev pub decreases-blanks : goal.decreases-blanks
decreases-blanks l = length l.rest
