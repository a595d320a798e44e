use Rattle.std.proofs.Common.{◌≡◌, ◌++◌, length}
use Rattle.source_words.specs.Emission.{operators, below_bracket}
use Rattle.source_words.proofs.depex.stack.put_operators.Given as goal

abbrev pub invariant-operators : goal.invariant-operators
invariant-operators l = (l.code ++ operators l.stack ≡ l.fn.code ++ operators l.fn.stack) × (below_bracket l.stack ≡ below_bracket l.fn.stack)

abbrev pub decreases-operators : goal.decreases-operators
decreases-operators l = length l.stack
