use Rattle.boot_laws.proofs.PeiOnce.{starts_once}
use Rattle.boot_laws.proofs.pei.starts_at_most_once.Goals as goal

pub returns : goal.returns
returns c = starts_once
