use Rattle.boot_laws.proofs.DxeWays as Law
use Rattle.boot_laws.proofs.free_dxe.dxe_chooses_by_groups.Goals as goal

pub returns : goal.returns
returns c = Law.first_may_start
