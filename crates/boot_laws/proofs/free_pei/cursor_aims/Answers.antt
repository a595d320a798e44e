use Rattle.boot_laws.proofs.Cursors as Law
use Rattle.boot_laws.proofs.PeiWays as Ways
use Rattle.boot_laws.proofs.free_pei.cursor_aims.Goals as goal

pub returns-clause-aims : goal.returns-clause-aims
returns-clause-aims c = Law.aims

pub returns-clause-may : goal.returns-clause-may
returns-clause-may c = Ways.next_may_start

pub returns-clause-free : goal.returns-clause-free
returns-clause-free c = Law.free
