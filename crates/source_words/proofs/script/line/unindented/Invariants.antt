use Rattle.std.proofs.Common.{◌≡◌, length}
use Rattle.source_words.specs.Line.{unindented}
use Rattle.source_words.proofs.script.line.unindented.Given as goal

abbrev pub invariant-blanks : goal.invariant-blanks
invariant-blanks l = unindented l.rest ≡ unindented l.line

abbrev pub decreases-blanks : goal.decreases-blanks
decreases-blanks l = length l.rest
