use Rattle.std.proofs.Common.{length}
use Rattle.program_edge.specs.PlanMistake.{Lacks}
use Rattle.program_edge.proofs.plan_mistake.has_line.Given as goal

abbrev pub invariant-lines : goal.invariant-lines
invariant-lines l = Lacks l.rest l.word → Lacks l.text l.word

abbrev pub decreases-lines : goal.decreases-lines
decreases-lines l = length l.rest
