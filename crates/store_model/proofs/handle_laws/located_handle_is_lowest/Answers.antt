use Rattle.store_model.proofs.HandleFacts.{located_is_lowest}
use Rattle.store_model.proofs.handle_laws.located_handle_is_lowest.Goals as goal

pub returns : goal.returns
returns c = located_is_lowest
