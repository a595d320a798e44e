use Rattle.boot_laws.proofs.PeiRuns as Law
use Rattle.boot_laws.proofs.free_pei.pei_lines_grow.Goals as goal

pub returns : goal.returns
returns c = Law.lines_grow
