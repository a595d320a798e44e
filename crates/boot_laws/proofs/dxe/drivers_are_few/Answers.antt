use Rattle.boot_laws.proofs.DriverGrowth as Law
use Rattle.boot_laws.proofs.dxe.drivers_are_few.Goals as goal

pub returns : goal.returns
returns c = Law.drivers_are_few
