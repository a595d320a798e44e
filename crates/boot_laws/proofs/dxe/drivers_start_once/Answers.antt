use Rattle.boot_laws.proofs.DxeOnce.{start_once}
use Rattle.boot_laws.proofs.dxe.drivers_start_once.Goals as goal

pub returns : goal.returns
returns c = start_once
