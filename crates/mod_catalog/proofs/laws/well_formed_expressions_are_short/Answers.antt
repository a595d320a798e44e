use Rattle.mod_catalog.proofs.ShortExpressions.{are_short}
use Rattle.mod_catalog.proofs.laws.well_formed_expressions_are_short.Goals as goal

pub returns : goal.returns
returns c = are_short
