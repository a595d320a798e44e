use Rattle.boot_laws.proofs.PeiRuns as Law
use Rattle.boot_laws.proofs.free_pei.pei_goes_on.Goals as goal

pub returns-clause-on : goal.returns-clause-on
returns-clause-on c = Law.goes_on

pub returns-clause-ended : goal.returns-clause-ended
returns-clause-ended c = Law.ends_so
