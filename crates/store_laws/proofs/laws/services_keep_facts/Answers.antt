use Rattle.store_laws.proofs.laws.services_keep_facts.Goals as goal
use Rattle.store_laws.proofs.Services.{all_keep}

pub returns : goal.returns
returns c = all_keep
