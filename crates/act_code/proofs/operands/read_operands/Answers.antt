use Rattle.std.proofs.Common.{refl}
use Rattle.act_code.specs.Source.{operands_by}
use Rattle.act_code.proofs.operands.read_operands.Goals as goal

pub returns-in-Shadow : goal.returns-in-Shadow
unfolding operands_by
returns-in-Shadow g c = rw c.in-Shadow.is refl

pub returns-in-Dispatch : goal.returns-in-Dispatch
unfolding operands_by
returns-in-Dispatch g c = rw c.in-Dispatch.is refl
