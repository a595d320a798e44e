use Rattle.store_model.proofs.HandleFacts.{facts_are_kept}
use Rattle.store_model.proofs.handle_laws.handle_services_keep_facts.Goals as goal

pub returns : goal.returns
returns c = facts_are_kept
