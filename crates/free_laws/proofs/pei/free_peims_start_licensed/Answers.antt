use Rattle.free_laws.proofs.PeimLicences.{start_licensed}
use Rattle.free_laws.proofs.pei.free_peims_start_licensed.Goals as goal

pub returns : goal.returns
returns c = start_licensed
