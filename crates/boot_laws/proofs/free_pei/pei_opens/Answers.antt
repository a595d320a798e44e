use Rattle.boot_laws.proofs.PeiWays as Law
use Rattle.boot_laws.proofs.free_pei.pei_opens.Goals as goal

pub returns-clause-opens : goal.returns-clause-opens
returns-clause-opens c = Law.opens_under_way

pub returns-clause-nearer : goal.returns-clause-nearer
returns-clause-nearer c = Law.steps_run_out
