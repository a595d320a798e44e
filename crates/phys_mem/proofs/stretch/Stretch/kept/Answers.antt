use Rattle.std.proofs.Common.{arith, ap, ◌∙◌, take, drop, ◌+◌, ◌-◌, ◌≡◌}
use Rattle.phys_mem.proofs.Amid.{all_len, amid_kept}
use Rattle.phys_mem.proofs.stretch.Stretch.kept.Goals as goal

pub overflow_add-from : goal.overflow_add-from
overflow_add-from c =
    let p = c.self.inside in
    omega (arith, c.requires, c.self.invariant, all_len p.front p.behind p.kept.now c.args.self.now c.self.view_is)

pub returns : goal.returns
returns c =
    let p = c.self.inside in let from = c.args.at - p.front in
    let e : from + c.args.n - from ≡ c.args.n = omega arith in
    ap (λ m. take m (drop from p.kept.now)) e ∙ amid_kept p.front p.behind c.args.at c.args.n p.kept.now (grind (arith, c.if-at-self.false)) (grind (arith, c.if-from-n.false)) ∙ ap (λ xs. take c.args.n (drop c.args.at xs)) c.self.view_is
