use Rattle.boot_laws.proofs.DxeRuns as Law
use Rattle.boot_laws.proofs.free_dxe.dxe_lines_grow.Goals as goal

pub returns : goal.returns
returns c = Law.lines_grow
