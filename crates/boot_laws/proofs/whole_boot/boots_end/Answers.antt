use Rattle.boot_laws.proofs.BootEnds.{boots_end}
use Rattle.boot_laws.proofs.whole_boot.boots_end.Goals as goal

pub returns : goal.returns
returns c = boots_end
