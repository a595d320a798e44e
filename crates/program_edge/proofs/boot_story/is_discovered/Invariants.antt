use Rattle.std.proofs.Common.{◌≡◌, length}
use Rattle.line_words.specs.Line.{lines}
use Rattle.program_edge.specs.BootStory.{is_discovered}
use Rattle.program_edge.proofs.boot_story.is_discovered.Given as goal

abbrev pub invariant-lines : goal.invariant-lines
invariant-lines l = is_discovered l.volume (lines l.text) ≡ is_discovered l.volume (lines l.rest)

abbrev pub decreases-lines : goal.decreases-lines
decreases-lines l = length l.rest
