use Rattle.std.proofs.Common.{◌≡◌, ◌+◌, ◌≤◌, ◌++◌, length}
use Rattle.std.specs.List.{AllByRecursion}
use Rattle.boot_model.specs.Text.{text_of}
use Rattle.trace_reader.specs.Readable.{IsReadable}
use Rattle.trace_reader.proofs.trace.read_trace.Given as goal

-- the lines so far are readable, and their texts and the rest are the text
abbrev pub invariant-lines : goal.invariant-lines
invariant-lines l = record {
  text : l.text ≡ text_of l.lines ++ l.rest;
  readable : AllByRecursion IsReadable l.lines;
  number : l.number ≡ length l.lines + 1;
  short : l.number + length l.rest ≤ length l.text + 1;
}

abbrev pub decreases-lines : goal.decreases-lines
decreases-lines l = length l.rest
