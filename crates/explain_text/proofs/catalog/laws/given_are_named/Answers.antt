use Rattle.explain_text.proofs.Named.{named_by_some}
use Rattle.explain_text.proofs.catalog.laws.given_are_named.Goals as goal

pub returns : goal.returns
returns c = λ script guid. named_by_some guid script.blocks
