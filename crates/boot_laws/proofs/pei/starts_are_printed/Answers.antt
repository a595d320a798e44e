use Rattle.boot_laws.proofs.PrintedStarts as Law
use Rattle.boot_laws.proofs.pei.starts_are_printed.Goals as goal

pub returns : goal.returns
returns c = Law.starts_are_printed
