use Rattle.std.proofs.Common.{sym, ◌∙◌}
use Rattle.pei_dispatch.proofs.Returning.{again_is, none_again}
use Rattle.pei_dispatch.proofs.whose_turn.next_again.Goals as goal

pub returns-then-not-moved : goal.returns-then-not-moved
returns-then-not-moved g c catalog m now = none_again catalog m (sym (c.moved.ensures.row m.store (c.store.ensures m now.machine) tt) ∙ c.if-not-moved.true)

pub returns : goal.returns
returns g c catalog m now =
    c.first_awaiting.ensures
    ∙ again_is catalog m c.states.result.now c.as_slice.result.now (c.as_slice.ensures ∙ now.parts.shows.order) (c.states.ensures m now.machine)
    (sym (c.moved.ensures.row m.store (c.store.ensures m now.machine) tt) ∙ c.if-not-moved.false)
