use Rattle.std.proofs.Common.{◌≡◌, ◌++◌, length}
use Rattle.source_words.specs.Emission.{nots, behind_nots}
use Rattle.source_words.proofs.depex.stack.put_nots.Given as goal

abbrev pub invariant-nots : goal.invariant-nots
invariant-nots l = (l.code ++ nots l.stack ≡ l.fn.code ++ nots l.fn.stack) × (behind_nots l.stack ≡ behind_nots l.fn.stack)

abbrev pub decreases-nots : goal.decreases-nots
decreases-nots l = length l.stack
