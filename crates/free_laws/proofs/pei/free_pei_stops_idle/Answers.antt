use Rattle.free_laws.proofs.PeimLicences.{stops_idle}
use Rattle.free_laws.proofs.pei.free_pei_stops_idle.Goals as goal

pub returns : goal.returns
returns c = stops_idle
