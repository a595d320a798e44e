use Rattle.boot_laws.proofs.DxeWays as Law
use Rattle.boot_laws.proofs.free_dxe.groups_are_aimed.Goals as goal

pub returns : goal.returns
returns c = Law.groups_are_aimed
