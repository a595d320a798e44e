use Rattle.mp_core.proofs.{InOrder.cells_in_order, InOrder.records_in_order, Orderly.orderly, Runs.idle_in_order}
use Rattle.mp_core.specs.Past.{schedule}
use Rattle.mp_core.proofs.laws.jobs_in_order.Goals as goal

pub returns-clause-any_moment : goal.returns-clause-any_moment
returns-clause-any_moment c = λ processors events. ((λ k. cells_in_order k (schedule processors events)), (λ p. records_in_order p (schedule processors events) (orderly processors events).fair))

pub returns-clause-idle : goal.returns-clause-idle
returns-clause-idle c = λ processors cells events none. idle_in_order processors cells (schedule processors events) (orderly processors events) none
