use Rattle.std.proofs.Common.{◌≡◌, ◌+◌, ◌≤◌, ◌++◌, length}
use Rattle.line_words.specs.Line.{lines}
use Rattle.mp_core.specs.Calls.{AreEvents}
use Rattle.mp_core.specs.FileText.{numbered_from, spelled, first_without_event}
use Rattle.mp_core.proofs.EventLines.{somes}
use Rattle.mp_core.proofs.lines.take_lines.Given as goal

-- the lines so far spell the events, and each of them spells one
abbrev pub invariant-lines : goal.invariant-lines
invariant-lines l = record {
  short : l.number + length l.rest ≤ l.first + length l.text;
  spelling : somes l.events ++ spelled l.processors l.cells (numbered_from l.number (lines l.rest)) ≡ spelled l.processors l.cells (numbered_from l.first (lines l.text));
  sound : first_without_event l.processors l.cells (numbered_from l.first (lines l.text)) ≡ first_without_event l.processors l.cells (numbered_from l.number (lines l.rest));
  fits : AreEvents l.processors l.cells l.events;
}

abbrev pub decreases-lines : goal.decreases-lines
decreases-lines l = length l.rest
