use Rattle.std.proofs.Common.{◌≡◌, ◌≤◌, length}
use Rattle.line_words.specs.Words.{words}
use Rattle.line_words.proofs.words.behind_spaces.Given as goal

abbrev pub invariant-spaces : goal.invariant-spaces
invariant-spaces l = (words l.rest ≡ words l.line) × (length l.rest ≤ length l.line)

abbrev pub decreases-spaces : goal.decreases-spaces
decreases-spaces l = length l.rest
