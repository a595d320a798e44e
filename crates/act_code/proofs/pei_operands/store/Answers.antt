use Rattle.std.proofs.Common.{refl}
use Rattle.act_code.specs.Source.{operands_by}
use Rattle.act_code.proofs.pei_operands.store.Goals as goal

pub returns : goal.returns
unfolding operands_by
returns g c = rw (c.in_ok-p.ensures, c.in_ok-offset.ensures, c.in_ok-bytes.ensures) refl
