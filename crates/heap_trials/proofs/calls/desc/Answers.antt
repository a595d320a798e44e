use Rattle.heap_trials.proofs.Stays.{has_new}
use Rattle.heap_trials.proofs.calls.desc.Goals as goal

pub returns-clause-made : goal.returns-clause-made
returns-clause-made g c =
    let h = c.requires.state in
    has_new (g.S.PeiStore.stands_for c.desc.new.self) _ h.0 c.args.kind c.args.guid c.args.number c.desc.result (c.desc.ensures.row h.0 h.1)
