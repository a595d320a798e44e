use Rattle.boot_laws.proofs.DriverGrowth as Law
use Rattle.boot_laws.proofs.dxe.driver_steps_grow.Goals as goal

pub returns : goal.returns
returns c = Law.driver_steps_grow
