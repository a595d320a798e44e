use Rattle.std.proofs.Common.{take}
use Rattle.pi_base.specs.Lists.{Each}
use Rattle.line_words.specs.PrintedWords.{IsGuid}
use Rattle.recorded_boot.proofs.order.guids.names_are_guids.Given as goal

abbrev pub invariant-modules : goal.invariant-modules
invariant-modules l = Each (λ m. IsGuid m.name) (take l.member-index l.catalog.modules)
