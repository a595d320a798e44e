use Rattle.std.proofs.Common.{refl}
use Rattle.act_code.specs.Source.{operands_by}
use Rattle.act_code.proofs.dxe_operands.install.Goals as goal

pub returns : goal.returns
unfolding operands_by
returns g c = rw (c.in_ok-form.ensures, c.in_ok-h.ensures, c.in_ok-guid.ensures, c.in_ok-v.ensures) refl
