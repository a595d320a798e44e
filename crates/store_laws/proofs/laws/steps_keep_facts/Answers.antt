use Rattle.store_laws.proofs.laws.steps_keep_facts.Goals as goal
use Rattle.store_laws.proofs.StepLaws.{all_steps}

pub returns : goal.returns
returns c = all_steps
