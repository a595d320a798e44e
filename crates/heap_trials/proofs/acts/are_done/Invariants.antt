use Rattle.heap_trials.specs.Scene.{IsLaid}
use Rattle.heap_trials.proofs.acts.are_done.Given as goal

abbrev pub invariant-acts : goal.invariant-acts
invariant-acts g l = IsLaid (g.S.PeiStore.stands_for l.store)
