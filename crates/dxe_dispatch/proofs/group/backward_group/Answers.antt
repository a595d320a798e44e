use Rattle.std.proofs.Common.{◌≤◌, ◌*◌, length, arith}
use Rattle.std.proofs.lemmas.Bool.Decides.{nat_tests}
use Rattle.dxe_dispatch.proofs.Walks.{walk_begins, walk_on, walk_ends, walk_is_over}
use Rattle.dxe_dispatch.proofs.group.backward_group.Goals as goal

pub turns-init : goal.turns-init
turns-init c m have is =
    walk_begins c.args.catalog.now m c.args.order.now c.args.waits.now c.args.root c.new-stack.result c.push.new.self c.new-group.result have is c.new-stack.ensures c.in_ok-push.ensures.ok c.new-group.ensures

pub returns-in-None : goal.returns-in-None
returns-in-None c m have is =
    walk_ends c.args.catalog.now m c.args.root c.turns.stack c.turns.group c.turns.counter (c.pop.ensures.none.0 (cc)) (c.turns.invariant m have is)

pub turns-preserved : goal.turns-preserved
turns-preserved c m have is =
    walk_on c.args.catalog.now m c.args.order.now c.args.waits.now c.args.root c.turns.stack c.pop.new.self c.take_item.new.stack c.turns.group c.take_item.new.group c.in-Some.item c.turns.counter
    have is c.in-Some.ensures.last c.in_ok-take_item-in-Some.ensures (c.turns.invariant m have is)

pub returns : goal.returns
returns c m have is =
    let out : 2 * length c.args.catalog.now.modules ≤ c.turns.counter = grind (arith, nat_tests) in
    walk_is_over c.args.catalog.now m c.args.root c.turns.stack c.turns.group c.turns.counter is out (c.turns.invariant m have is)
