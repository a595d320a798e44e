use Rattle.std.proofs.Common.{arith}
use Rattle.pei_dispatch.proofs.Places.{found_place, has_placed, place_within}
use Rattle.pei_dispatch.proofs.queue.PeiQueue.aim.Goals as goal

pub returns-in-Some-clause-within : goal.returns-in-Some-clause-within
returns-in-Some-clause-within c within =
    let order = c.args.self.now.index.places.order.items in
    let below = place_within order c.args.number c.in-Some.place ((c.place_of.ensures.at c.in-Some.place).0 c.in-Some.is) in
    omega (arith, below)

pub returns-in-Some-clause-stays : goal.returns-in-Some-clause-stays
returns-in-Some-clause-stays c none =
    let order = c.args.self.now.index.places.order.items in
    let there = has_placed order c.args.number c.in-Some.place ((c.place_of.ensures.at c.in-Some.place).0 c.in-Some.is) in
    absurd (cc)

pub returns-in_default-clause-cursor : goal.returns-in_default-clause-cursor
returns-in_default-clause-cursor c among =
    let order = c.args.self.now.index.places.order.items in
    let there = found_place order c.args.number among in
    absurd (c.in_default.not-Some there.0 ((c.place_of.ensures.at there.0).1 there.1))
