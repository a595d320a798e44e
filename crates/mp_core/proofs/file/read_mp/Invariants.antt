use Rattle.std.proofs.Common.{◌≡◌, ◌+◌, ◌≤◌, length}
use Rattle.line_words.specs.Line.{lines}
use Rattle.mp_core.specs.FileText.{numbered, numbered_from}
use Rattle.mp_core.proofs.file.read_mp.Given as goal

-- each line so far is passed over
abbrev pub invariant-lines : goal.invariant-lines
invariant-lines l = record {
  short : l.count + length l.rest ≤ length l.text;
  counted : length (lines l.text) ≡ l.count + length (lines l.rest);
  left : numbered l.text ≡ numbered_from (l.count + 1) (lines l.rest);
}

abbrev pub decreases-lines : goal.decreases-lines
decreases-lines l = length l.rest
