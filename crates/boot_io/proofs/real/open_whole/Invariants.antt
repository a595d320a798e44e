use Rattle.boot_io.proofs.real.open_whole.Given as goal

abbrev pub decreases-opens : goal.decreases-opens
decreases-opens g l = l.tries
