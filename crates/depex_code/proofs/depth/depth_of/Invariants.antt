use Rattle.depex_code.proofs.Walk.{IsAt}
use Rattle.depex_code.proofs.depth.depth_of.Given as goal

abbrev pub invariant-loop-opcode : goal.invariant-loop-opcode
invariant-loop-opcode l = IsAt l.code l.opcode-index l.depth
