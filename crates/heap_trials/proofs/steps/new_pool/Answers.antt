use Rattle.heap_trials.proofs.NewPools.{has_pool}
use Rattle.heap_trials.proofs.steps.new_pool.Goals as goal

pub returns-clause-made : goal.returns-clause-made
returns-clause-made g c =
    let h = c.requires in
    has_pool (g.S.PeiStore.stands_for c.pool.new.self) _ h.0 c.args.size c.pool.result (c.pool.ensures.row h.0 h.1)
