use Rattle.boot_reasons.proofs.OwnBoots.{own_boot}
use Rattle.boot_reasons.proofs.laws.own_boot_is_explained.Goals as goal

pub returns : goal.returns
returns c = own_boot c.pei_runs_end.ensures c.dxe_runs_end.ensures
