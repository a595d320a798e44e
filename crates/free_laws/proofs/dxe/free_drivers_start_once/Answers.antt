use Rattle.free_laws.proofs.DriversOnce.{start_once}
use Rattle.free_laws.proofs.dxe.free_drivers_start_once.Goals as goal

pub returns : goal.returns
returns c = start_once c.dxe_opens.ensures.opens c.dxe_opens.ensures.nearer
