use Rattle.choice_trials.proofs.SmallMachines.{empty_store}
use Rattle.choice_trials.proofs.calls.services_at.Goals as goal

pub returns-in-Ok : goal.returns-in-Ok
returns-in-Ok c = record { flags = c.in-Ok.ensures.made; machine = (_, c.in-Ok.ensures.opening empty_store 0) }
