use Rattle.phys_mem.proofs.Amid.{amid_all}
use Rattle.phys_mem.proofs.stretch.Stretch.of.Goals as goal

pub returns : goal.returns
returns c = amid_all c.args.bytes.now
