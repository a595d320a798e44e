use Rattle.std.proofs.Common.{refl}
use Rattle.act_code.specs.Source.{operands_by}
use Rattle.act_code.proofs.pei_operands.pages.Goals as goal

pub returns : goal.returns
unfolding operands_by
returns g c = rw (c.in_ok-r.ensures, c.in_ok-memory_type.ensures, c.in_ok-count.ensures) refl
