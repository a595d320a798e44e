use Rattle.phase_parts.proofs.Same.{alike}
use Rattle.phase_parts.proofs.laws.effects_are_alike.Goals as goal

pub returns-clause-pei : goal.returns-clause-pei
returns-clause-pei c = alike

pub returns-clause-dxe : goal.returns-clause-dxe
returns-clause-dxe c = alike
