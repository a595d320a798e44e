use Rattle.boot_laws.proofs.DriverCalls as Law
use Rattle.boot_laws.proofs.dxe.refused_calls_change_nothing.Goals as goal

pub returns : goal.returns
returns c = Law.refused_calls_change_nothing
