use Rattle.std.proofs.Common.{◌≡◌, [], length}
use Rattle.line_words.specs.Line.{lines}
use Rattle.program_edge.specs.BootStory.{refusal_behind}
use Rattle.program_edge.proofs.boot_story.refused_memory.Given as goal

abbrev pub invariant-lines : goal.invariant-lines
invariant-lines l = refusal_behind [] (lines l.text) ≡ refusal_behind l.start (lines l.rest)

abbrev pub decreases-lines : goal.decreases-lines
decreases-lines l = length l.rest
