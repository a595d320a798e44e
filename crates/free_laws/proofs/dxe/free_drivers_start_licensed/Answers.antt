use Rattle.free_laws.proofs.DriverLicences.{start_licensed}
use Rattle.free_laws.proofs.dxe.free_drivers_start_licensed.Goals as goal

pub returns : goal.returns
returns c = start_licensed
