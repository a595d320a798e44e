use Rattle.store_laws.proofs.laws.bodies_stay.Goals as goal
use Rattle.store_laws.proofs.BodyLaws.{all_stay}

pub returns : goal.returns
returns c = all_stay
