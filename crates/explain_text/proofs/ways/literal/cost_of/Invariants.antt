use Rattle.std.proofs.Common.{◌≡◌, ◌≤◌, take}
use Rattle.explain_text.specs.Ways.{cost}
use Rattle.explain_text.proofs.ways.literal.cost_of.Given as goal

abbrev pub invariant-literals : goal.invariant-literals
invariant-literals l = (l.cost ≡ cost (take l.literal-index l.literals)) × (l.cost ≤ l.literal-index)
