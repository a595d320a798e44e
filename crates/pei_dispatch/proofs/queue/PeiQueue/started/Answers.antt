use Rattle.std.proofs.Common.{◌≡◌, ◌+◌, Some, sym, ◌∙◌}
use Rattle.pei_dispatch.specs.declared.queue.PeiQueue.{PeiQueue}
use Rattle.pei_dispatch.proofs.Places.{found_place, place_within, behind_place}
use Rattle.pei_dispatch.proofs.Views.{shows_started}
use Rattle.pei_dispatch.proofs.queue.PeiQueue.started.Goals as goal

pub unreachable-requires : goal.unreachable-requires
unreachable-requires c =
    let order = c.args.self.now.index.places.order.items in
    let there = found_place order c.args.number c.requires in
    c.in_default.not-Some there.0 ((c.place_of.ensures.at there.0).1 there.1)

pub started-requires : goal.started-requires
started-requires c =
    let order = c.args.self.now.index.places.order.items in
    record { within = place_within order c.args.number c.in-Some.place ((c.place_of.ensures.at c.in-Some.place).0 c.in-Some.is) }

pub returns-clause-cursor : goal.returns-clause-cursor
returns-clause-cursor c =
    let order = c.args.self.now.index.places.order.items in
    let place = c.in-Some.place in
    let at = (c.place_of.ensures.at place).0 c.in-Some.is in
    sym (behind_place order c.args.number place at (λ other e.
    let is : c.place_of.result ≡ Some other = (c.place_of.ensures.at other).1 e in
    let one : Some other ≡ Some place = sym is ∙ c.in-Some.is in
    cc))

pub returns-clause-shows : goal.returns-clause-shows
returns-clause-shows c catalog view shows among =
    let place = c.in-Some.place in
    let new : PeiQueue = record { index = c.started.new.self; cursor = place + 1; walked = c.newest_after-self.result } in
    shows_started catalog c.args.self.now new view c.args.number place shows among ((c.place_of.ensures.at place).0 c.in-Some.is) (c.started.ensures.index catalog shows.of_catalog) c.started.ensures.changes
