use Rattle.store_laws.proofs.laws.named_are_there.Goals as goal
use Rattle.store_laws.proofs.Named.{all_named}

pub returns : goal.returns
returns c = all_named
