use Rattle.std.proofs.Common.{sym}
use Rattle.phys_mem.proofs.Amid.{all_len}
use Rattle.phys_mem.proofs.stretch.Stretch.len.Goals as goal

pub returns : goal.returns
returns c = let p = c.self.inside in sym (all_len p.front p.behind p.kept.now c.args.self.now c.self.view_is)
