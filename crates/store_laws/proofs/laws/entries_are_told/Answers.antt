use Rattle.store_laws.proofs.laws.entries_are_told.Goals as goal
use Rattle.store_laws.proofs.Behind.{all_told}

pub returns : goal.returns
returns c = all_told
