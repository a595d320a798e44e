use Rattle.mem_store.proofs.Finding.{Sought, found_first, found_none, not_past}
use Rattle.mem_store.proofs.named.Named.first.Goals as goal

pub returns-in-None : goal.returns-in-None
returns-in-None c = λ s known.
    let sought : Sought s c.args.self.now.nodes c.args.d c.key.result =
    record { inside = c.bodies_are_inside.ensures; fit = c.states_fit.ensures; known = known; keyed = c.key.ensures.key; fits = c.key.ensures.fits } in
    found_none s c.args.self.now.nodes c.args.d c.key.result sought c.in-None.ensures

pub unreachable-requires : goal.unreachable-requires
unreachable-requires c = not_past c.args.self.now.nodes c.key.result c.in-Some.place c.in-Some.ensures.2 c.in-None-get.ensures

pub returns : goal.returns
returns c = λ s known.
    let sought : Sought s c.args.self.now.nodes c.args.d c.key.result =
    record { inside = c.bodies_are_inside.ensures; fit = c.states_fit.ensures; known = known; keyed = c.key.ensures.key; fits = c.key.ensures.fits } in
    found_first s c.args.self.now.nodes c.args.d c.key.result c.in-Some.place c.in-Some-get.row sought c.in-Some.ensures c.in-Some-get.ensures
