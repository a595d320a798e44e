use Rattle.std.proofs.Common.{List, ◌++◌, take}
use Rattle.pi_base.specs.declared.guid.Guid.{Guid}
use Rattle.explain_text.specs.Gives.{AreMet, named_in_block}
use Rattle.explain_text.proofs.catalog.gives.meet_block.Given as goal

abbrev pub invariant-actions : goal.invariant-actions
invariant-actions l = (before : List Guid) → AreMet before l.fn.met → AreMet (before ++ named_in_block (take l.action-index l.actions)) l.met
