use Rattle.store_laws.proofs.laws.sweeps_go_on.Goals as goal
use Rattle.store_laws.proofs.Sweeps.{all_go_on}

pub returns : goal.returns
returns c = all_go_on
