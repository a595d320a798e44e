use Rattle.store_laws.proofs.laws.states_fit.Goals as goal
use Rattle.store_laws.proofs.Fits.{all_fit}

pub returns : goal.returns
returns c = all_fit
