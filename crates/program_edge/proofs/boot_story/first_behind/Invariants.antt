use Rattle.std.proofs.Common.{◌≡◌, length}
use Rattle.line_words.specs.Line.{lines}
use Rattle.program_edge.specs.BootStory.{first_behind}
use Rattle.program_edge.proofs.boot_story.first_behind.Given as goal

abbrev pub invariant-lines : goal.invariant-lines
invariant-lines l = first_behind l.front (lines l.text) ≡ first_behind l.front (lines l.rest)

abbrev pub decreases-lines : goal.decreases-lines
decreases-lines l = length l.rest
