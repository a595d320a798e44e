use Rattle.boot_laws.proofs.DxeRuns as Law
use Rattle.boot_laws.proofs.free_dxe.dxe_ends.Goals as goal

pub returns : goal.returns
returns c = Law.ends_freely
