use Rattle.boot_laws.proofs.QueueOrder as Law
use Rattle.boot_laws.proofs.dxe.companions_start_beside.Goals as goal

pub returns : goal.returns
returns c = Law.companions_start_beside
