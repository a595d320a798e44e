use Rattle.std.proofs.Common.{◌≡◌, ◌++◌, length}
use Rattle.pi_base.specs.Field.{words_of}
use Rattle.explain_text.specs.Name.{units_text}
use Rattle.explain_text.proofs.catalog.word.put_units.Given as goal

-- what was added and what is to come make the whole
abbrev pub invariant-units : goal.invariant-units
invariant-units l = l.out ++ units_text (words_of l.rest) ≡ l.fn.out ++ units_text (words_of l.units)

abbrev pub decreases-units : goal.decreases-units
decreases-units l = length l.rest
