use Rattle.boot_laws.proofs.PeiRuns as Law
use Rattle.boot_laws.proofs.free_pei.pei_ends.Goals as goal

pub returns : goal.returns
returns c = Law.ends_freely
