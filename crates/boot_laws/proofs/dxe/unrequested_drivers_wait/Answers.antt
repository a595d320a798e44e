use Rattle.boot_laws.proofs.Unrequested as Law
use Rattle.boot_laws.proofs.dxe.unrequested_drivers_wait.Goals as goal

pub returns : goal.returns
returns c = Law.unrequested_drivers_wait
