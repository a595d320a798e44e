use Rattle.store_model.specs.{Service.Present, StoreCall.Anything}
use Rattle.heap_trials.proofs.steps.are_answered.Given as goal

abbrev pub invariant-steps : goal.invariant-steps
invariant-steps g l = Present (g.S.PeiStore.stands_for l.store) Anything
