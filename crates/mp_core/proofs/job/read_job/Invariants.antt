use Rattle.std.proofs.Common.{◌≡◌, ◌≢◌, ◌+◌, ◌≤◌, ◌++◌, length, slice_index, option_map}
use Rattle.pi_base.specs.Lists.{Each}
use Rattle.line_words.specs.Words.{words}
use Rattle.mp_core.specs.{Calls.IsOp, LineText.ops_of}
use Rattle.mp_core.proofs.job.read_job.Given as goal

-- the words so far spell the operations, and the others the rest
abbrev pub invariant-ops : goal.invariant-ops
invariant-ops l = record {
  few : length l.job ≤ 64;
  count : length (words l.line) ≡ length l.job + length (words l.rest);
  ops : ops_of l.cells (words l.line) ≡ option_map (λ later. l.job ++ later) (ops_of l.cells (words l.rest));
  fits : Each (IsOp l.cells) l.job;
  trimmed : slice_index l.rest 0 ≢ 32;
}

abbrev pub decreases-ops : goal.decreases-ops
decreases-ops l = length (words l.rest)
