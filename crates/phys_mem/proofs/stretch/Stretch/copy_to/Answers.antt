use Rattle.std.proofs.Common.{arith, ◌∙◌}
use Rattle.phys_mem.proofs.Amid.{all_len, filled_is}
use Rattle.phys_mem.proofs.stretch.Stretch.copy_to.Goals as goal

pub write_amid_zeros-requires : goal.write_amid_zeros-requires
write_amid_zeros-requires c =
    let p = c.self.inside in
    omega (arith, c.requires, all_len p.front p.behind p.kept.now c.args.self.now c.self.view_is)

pub returns : goal.returns
returns c =
    let p = c.self.inside in
    c.write_amid_zeros.ensures ∙ filled_is p.front p.behind _ p.kept.now c.args.self.now c.self.view_is c.requires
