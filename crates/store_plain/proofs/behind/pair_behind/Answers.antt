use Rattle.std.proofs.Common.{ap, sym, ◌∙◌, map}
use Rattle.store_model.specs.Service.Reading.{pending_told, told_behind}
use Rattle.store_plain.proofs.Left.{found}
use Rattle.store_plain.proofs.behind.pair_behind.Goals as goal

pub returns-then-pendings-place : goal.returns-then-pendings-place
returns-then-pendings-place c s =
    found (pending_told s) c.args.pendings.now c.pendings.place _ c.in-Some.node c.pendings-test.true c.if-pendings-place.true
    ∙ c.pendings.invariant s
    ∙ ap (λ n. told_behind n (map (pending_told s) c.args.pendings.now)) (sym c.in-Some.is)
