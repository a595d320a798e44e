use Rattle.phys_mem.proofs.Amid.{first_is}
use Rattle.phys_mem.proofs.stretch.Stretch.first.Goals as goal

pub returns : goal.returns
returns c =
    let p = c.self.inside in
    first_is p.front p.behind c.args.n p.kept.now c.args.self.now c.min-front.result c.min-to.result c.self.view_is c.requires c.min-front.ensures c.min-to.ensures
