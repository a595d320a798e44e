use Rattle.boot_laws.proofs.DxeRuns as Law
use Rattle.boot_laws.proofs.Starts as Starts
use Rattle.boot_laws.proofs.free_dxe.dxe_starts_freely.Goals as goal

pub returns-clause-starts : goal.returns-clause-starts
returns-clause-starts c = Law.starts_freely

pub returns-clause-aims : goal.returns-clause-aims
returns-clause-aims c = Law.aim_is_free

pub returns-clause-prints : goal.returns-clause-prints
returns-clause-prints c = Starts.dxe_prints
