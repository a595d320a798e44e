use Rattle.boot_laws.proofs.PeiRuns as Law
use Rattle.boot_laws.proofs.Starts as Starts
use Rattle.boot_laws.proofs.free_pei.pei_starts_freely.Goals as goal

pub returns-clause-starts : goal.returns-clause-starts
returns-clause-starts c = Law.starts_freely

pub returns-clause-own : goal.returns-clause-own
returns-clause-own c = Law.own_steps_are_free

pub returns-clause-prints : goal.returns-clause-prints
returns-clause-prints c = Starts.pei_prints
