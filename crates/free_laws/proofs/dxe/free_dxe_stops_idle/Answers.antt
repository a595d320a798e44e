use Rattle.free_laws.proofs.DriversOnce.{stops_idle}
use Rattle.free_laws.proofs.dxe.free_dxe_stops_idle.Goals as goal

pub returns : goal.returns
returns c = stops_idle
