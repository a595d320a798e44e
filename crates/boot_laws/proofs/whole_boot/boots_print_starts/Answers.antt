use Rattle.boot_laws.proofs.PrintedStarts as Law
use Rattle.boot_laws.proofs.whole_boot.boots_print_starts.Goals as goal

pub returns : goal.returns
returns c = Law.boots_print_starts
