use Rattle.free_laws.proofs.PeimsOnce.{start_once}
use Rattle.free_laws.proofs.pei.free_peims_start_once.Goals as goal

pub returns : goal.returns
returns c = start_once
