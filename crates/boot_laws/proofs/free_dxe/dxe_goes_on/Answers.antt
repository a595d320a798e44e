use Rattle.boot_laws.proofs.DxeRuns as Law
use Rattle.boot_laws.proofs.free_dxe.dxe_goes_on.Goals as goal

pub returns-clause-on : goal.returns-clause-on
returns-clause-on c = Law.goes_on

pub returns-clause-ended : goal.returns-clause-ended
returns-clause-ended c = Law.ends_so

pub returns-clause-own : goal.returns-clause-own
returns-clause-own c = Law.own_steps_are_free
