use Rattle.std.proofs.Common.{◌≡◌, sym, subst, OnOk}
use Rattle.dxe_dispatch.specs.{Aim.aimed, Queue.IsQueueOf, Choices.Aims, Choices.root_of}
use Rattle.dxe_dispatch.proofs.{Chosen.order_of, Chosen.seen_of, Turning.on_ok}
use Rattle.dxe_dispatch.proofs.aim.aim.Goals as goal

pub returns-in-Some-clause-row : goal.returns-in-Some-clause-row
returns-in-Some-clause-row g c =
    let catalog = c.args.catalog.now in
    let core = c.args.dxe.now in
    let queue = c.args.queue.now in
    subst (λ o. OnOk c.aim.result (Aims catalog core queue o c.aim.new.self)) (sym c.in-Some.is)
    (on_ok c.aim.result
    (λ row m are.
    let root : c.root_of-root.result ≡ root_of catalog m c.in-Some.number = c.root_of-root.ensures m (order_of catalog core queue m c.order.result.now c.order.ensures are) in
    subst (λ n. IsQueueOf catalog (aimed catalog m n) c.aim.new.self) root (row m (seen_of catalog core queue m c.order-in-Some.result.now c.order-in-Some.ensures are)))
    c.aim.ensures.row)

pub returns-in-None-clause-row : goal.returns-in-None-clause-row
returns-in-None-clause-row g c = subst (λ o. Aims c.args.catalog.now c.args.dxe.now c.args.queue.now o c.args.queue.now) (sym c.in-None.is) (λ m are. are.queue)
