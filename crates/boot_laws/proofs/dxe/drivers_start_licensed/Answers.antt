use Rattle.boot_laws.proofs.DxeLicences.{start_licensed}
use Rattle.boot_laws.proofs.dxe.drivers_start_licensed.Goals as goal

pub returns : goal.returns
returns c = start_licensed
