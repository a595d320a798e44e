use Rattle.store_laws.proofs.laws.bodies_are_inside.Goals as goal
use Rattle.store_laws.proofs.BodyLaws.{all_inside}

pub returns : goal.returns
returns c = all_inside
