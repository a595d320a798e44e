use Rattle.std.proofs.Common.{arith, ap, ◌∙◌, ◌-◌}
use Rattle.phys_mem.specs.Region.{amid}
use Rattle.std.proofs.lemmas.List.{take_rest}
use Rattle.phys_mem.proofs.Amid.{all_len, skipped_is}
use Rattle.phys_mem.proofs.stretch.Stretch.skip.Goals as goal

pub overflow_sub-result-2 : goal.overflow_sub-result-2
overflow_sub-result-2 c =
    let p = c.self.inside in
    omega (arith, c.saturating_sub-inner.ensures, c.min-from.ensures, c.requires, all_len p.front p.behind p.kept.now c.args.self.now c.self.view_is)

pub returns : goal.returns
returns c =
    let p = c.self.inside in
    ap (λ xs. amid c.saturating_sub-front.result xs (p.behind - (c.saturating_sub-inner.result - c.min-from.result))) (take_rest p.kept.now c.min-from.result)
    ∙ skipped_is p.front p.behind c.args.n p.kept.now c.args.self.now c.saturating_sub-front.result c.saturating_sub-inner.result c.min-from.result c.self.view_is c.requires
    c.saturating_sub-front.ensures c.saturating_sub-inner.ensures c.min-from.ensures
