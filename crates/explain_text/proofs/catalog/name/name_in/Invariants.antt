use Rattle.std.proofs.Common.{length}
use Rattle.explain_text.proofs.Names.{IsPassed}
use Rattle.explain_text.proofs.catalog.name.name_in.Given as goal

abbrev pub invariant-units : goal.invariant-units
invariant-units l = IsPassed l.text l.rest

abbrev pub decreases-units : goal.decreases-units
decreases-units l = length l.rest
