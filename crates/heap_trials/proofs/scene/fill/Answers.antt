use Rattle.heap_trials.specs.Scene.{AreThere}
use Rattle.heap_trials.proofs.Stays.{all_kept, kept_by, pool_grows}
use Rattle.heap_trials.proofs.scene.fill.Goals as goal

pub returns-clause-laid : goal.returns-clause-laid
returns-clause-laid g c h =
    kept_by AreThere (g.M.PeiStore.stands_for c.pool.new.self) _ _ h.0 c.pool.result (all_kept h.0 h.2) (pool_grows h.0 _) (c.pool.ensures.row h.0 h.1)
