use Rattle.boot_laws.proofs.PeiRuns as Law
use Rattle.boot_laws.proofs.free_pei.boot_is_free.Goals as goal

pub returns : goal.returns
returns c = Law.boot_is_free
