use Rattle.std.proofs.Common.{refl}
use Rattle.act_code.specs.Source.{operands_by}
use Rattle.act_code.proofs.pei_operands.locate.Goals as goal

pub returns : goal.returns
unfolding operands_by
returns g c = rw (c.in_ok-d.ensures, c.in_ok-v.ensures, c.in_ok-guid.ensures, c.in_ok-instance.ensures) refl
