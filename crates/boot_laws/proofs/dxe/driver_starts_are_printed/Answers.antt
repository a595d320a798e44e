use Rattle.boot_laws.proofs.PrintedStarts as Law
use Rattle.boot_laws.proofs.dxe.driver_starts_are_printed.Goals as goal

pub returns : goal.returns
returns c = Law.driver_starts_are_printed
