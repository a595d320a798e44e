use Rattle.std.proofs.Common.{◌≡◌, Some, None, arith, length, sym, ap, ◌∙◌}
use Rattle.boot_model.specs.PeiChoice.{cursor_behind, pei_order}
use Rattle.pei_dispatch.proofs.Places.{behind_none, behind_place, place_within, walked_is}
use Rattle.pei_dispatch.proofs.queue.PeiQueue.behind_walked.Goals as goal

pub returns-in-Some-place_of-clause-within : goal.returns-in-Some-place_of-clause-within
returns-in-Some-place_of-clause-within c =
    let order = c.args.self.now.index.places.order.items in
    let place = c.in-Some-place_of.place in
    let below = place_within order c.in-Some.number place ((c.place_of.ensures.at place).0 c.in-Some-place_of.is) in
    omega (arith, below)

pub returns-in-Some-place_of-clause-place : goal.returns-in-Some-place_of-clause-place
returns-in-Some-place_of-clause-place c catalog m is =
    let order = c.args.self.now.index.places.order.items in
    let number = c.in-Some.number in
    let place = c.in-Some-place_of.place in
    let at = (c.place_of.ensures.at place).0 c.in-Some-place_of.is in
    sym (behind_place order number place at (λ other e.
    let here : c.place_of.result ≡ Some other = (c.place_of.ensures.at other).1 e in
    let one : Some other ≡ Some place = sym here ∙ c.in-Some-place_of.is in
    cc))
    ∙ ap (λ xs. cursor_behind xs number) is.shows.order ∙ sym (walked_is (pei_order catalog m.reported) m.started number (sym is.walked ∙ c.in-Some.is))

pub returns-in-None-clause-place : goal.returns-in-None-clause-place
returns-in-None-clause-place c catalog m is =
    let order = c.args.self.now.index.places.order.items in
    let number = c.in-Some.number in
    ap length c.order.ensures
    ∙ sym (behind_none order number (λ place e.
    let here : c.place_of.result ≡ Some place = (c.place_of.ensures.at place).1 e in
    let none : None ≡ Some place = sym c.in-None.is ∙ here in
    absurd (cc)))
    ∙ ap (λ xs. cursor_behind xs number) is.shows.order ∙ sym (walked_is (pei_order catalog m.reported) m.started number (sym is.walked ∙ c.in-Some.is))
