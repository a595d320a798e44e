use Rattle.boot_laws.proofs.RefusedCalls as Law
use Rattle.boot_laws.proofs.pei.refused_pei_calls_change_nothing.Goals as goal

pub returns : goal.returns
returns c = Law.refused_pei_calls_change_nothing
