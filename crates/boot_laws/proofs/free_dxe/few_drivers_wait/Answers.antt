use Rattle.boot_laws.proofs.DxeWays as Law
use Rattle.boot_laws.proofs.free_dxe.few_drivers_wait.Goals as goal

pub returns : goal.returns
returns c = Law.few_wait
