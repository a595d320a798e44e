use Rattle.pei_dispatch.specs.declared.queue.PeiQueue.{PeiQueue}
use Rattle.pei_dispatch.proofs.{Places.found_place, Places.place_within, Views.shows_again, Views.shows_without}
use Rattle.pei_dispatch.proofs.queue.PeiQueue.again.Goals as goal

pub again-requires : goal.again-requires
again-requires c =
    let order = c.args.self.now.index.places.order.items in
    record { within = place_within order c.args.number c.in-Some.place ((c.place_of.ensures.at c.in-Some.place).0 c.in-Some.is) }

pub returns-in-Some-clause-shows : goal.returns-in-Some-clause-shows
returns-in-Some-clause-shows c catalog view shows started =
    let place = c.in-Some.place in
    let new : PeiQueue = record { index = c.again.new.self; cursor = c.args.self.now.cursor; walked = c.args.self.now.walked } in
    shows_again catalog c.args.self.now new view c.args.number place shows started ((c.place_of.ensures.at place).0 c.in-Some.is) (c.again.ensures.index catalog shows.of_catalog) c.again.ensures.changes

pub returns-in_default-clause-shows : goal.returns-in_default-clause-shows
returns-in_default-clause-shows c catalog view shows started =
    let order = c.args.self.now.index.places.order.items in
    shows_without catalog c.args.self.now view c.args.number shows (λ h.
    let there = found_place order c.args.number h in
    c.in_default.not-Some there.0 ((c.place_of.ensures.at there.0).1 there.1))
