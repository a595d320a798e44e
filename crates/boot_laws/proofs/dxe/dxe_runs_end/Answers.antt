use Rattle.boot_laws.proofs.DxeEnds.{runs_end}
use Rattle.boot_laws.proofs.dxe.dxe_runs_end.Goals as goal

pub returns : goal.returns
returns c = runs_end
