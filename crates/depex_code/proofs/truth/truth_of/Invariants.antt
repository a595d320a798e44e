use Rattle.depex_code.proofs.Walk.{HasValues}
use Rattle.depex_code.proofs.truth.truth_of.Given as goal

abbrev pub invariant-loop-opcode : goal.invariant-loop-opcode
invariant-loop-opcode g l = HasValues (g.G.GuidSet.has_guid l.set) l.code l.opcode-index l.values
