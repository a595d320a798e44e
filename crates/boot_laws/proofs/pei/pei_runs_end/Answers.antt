use Rattle.boot_laws.proofs.PeiEnds.{runs_end}
use Rattle.boot_laws.proofs.pei.pei_runs_end.Goals as goal

pub returns : goal.returns
returns c = runs_end
