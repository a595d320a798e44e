use Rattle.std.proofs.Common.{ap, sym, ◌∙◌, find, slice_get, option_and_then}
use Rattle.boot_model.specs.PeiChoice.{rotated}
use Rattle.wait_index.specs.Index.{is_eligible_in, order_in}
use Rattle.pei_dispatch.specs.{View.view_of, declared.queue.PeiQueue.PeiQueue}
use Rattle.pei_dispatch.proofs.Views.{shows_settled, stands_so}
use Rattle.pei_dispatch.proofs.queue.PeiQueue.choose.Goals as goal

pub returns-in-Some-clause-shows : goal.returns-in-Some-clause-shows
returns-in-Some-clause-shows g c view shows =
    let new : PeiQueue = record { index = c.settle.new.self; cursor = c.args.self.now.cursor; walked = c.args.self.now.walked } in
    shows_settled c.args.catalog.now c.args.self.now new view shows c.settle.ensures.index c.settle.ensures.same

pub returns-in-None-clause-shows : goal.returns-in-None-clause-shows
returns-in-None-clause-shows g c view shows =
    let new : PeiQueue = record { index = c.settle.new.self; cursor = c.args.self.now.cursor; walked = c.args.self.now.walked } in
    shows_settled c.args.catalog.now c.args.self.now new view shows c.settle.ensures.index c.settle.ensures.same

pub returns-in-Some-clause-next : goal.returns-in-Some-clause-next
returns-in-Some-clause-next g c m is =
    let catalog = c.args.catalog.now in
    let index = c.settle.new.self in
    let new : PeiQueue = record { index = index; cursor = c.args.self.now.cursor; walked = c.args.self.now.walked } in
    let shows = shows_settled catalog c.args.self.now new (view_of m) is.shows c.settle.ensures.index c.settle.ensures.same in
    c.module_at.ensures ∙ ap (option_and_then (slice_get (order_in index))) (sym c.in-Some.is) ∙ c.next.ensures catalog c.settle.ensures.index
    ∙ ap (λ k. find (is_eligible_in catalog index) (rotated k (order_in index))) (sym is.place) ∙ c.next_is_the_next_peim.ensures catalog m index c.settle.ensures.index (stands_so catalog m new shows)

pub returns-in-None-clause-next : goal.returns-in-None-clause-next
returns-in-None-clause-next g c m is =
    let catalog = c.args.catalog.now in
    let index = c.settle.new.self in
    let new : PeiQueue = record { index = index; cursor = c.args.self.now.cursor; walked = c.args.self.now.walked } in
    let shows = shows_settled catalog c.args.self.now new (view_of m) is.shows c.settle.ensures.index c.settle.ensures.same in
    ap (option_and_then (slice_get (order_in index))) (sym c.in-None.is) ∙ c.next.ensures catalog c.settle.ensures.index
    ∙ ap (λ k. find (is_eligible_in catalog index) (rotated k (order_in index))) (sym is.place) ∙ c.next_is_the_next_peim.ensures catalog m index c.settle.ensures.index (stands_so catalog m new shows)
