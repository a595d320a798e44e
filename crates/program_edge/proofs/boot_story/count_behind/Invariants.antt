use Rattle.std.proofs.Common.{◌≡◌, ◌≤◌, ◌+◌, length}
use Rattle.line_words.specs.Line.{lines}
use Rattle.program_edge.specs.BootStory.{count_behind}
use Rattle.program_edge.proofs.boot_story.count_behind.Given as goal

abbrev pub invariant-lines : goal.invariant-lines
invariant-lines l = record {
  counted : count_behind l.front (lines l.text) ≡ l.count + count_behind l.front (lines l.rest);
  within : l.count + length l.rest ≤ length l.text;
}

abbrev pub decreases-lines : goal.decreases-lines
decreases-lines l = length l.rest
