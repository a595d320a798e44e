use Rattle.boot_laws.proofs.Unmoved.{moves_change_nothing}
use Rattle.boot_laws.proofs.pei.moves_change_nothing.Goals as goal

pub returns : goal.returns
returns c = moves_change_nothing
