use Rattle.std.proofs.Common.{List, ◌++◌, take}
use Rattle.pi_base.specs.declared.guid.Guid.{Guid}
use Rattle.explain_text.specs.Gives.{AreMet, named_in_all}
use Rattle.explain_text.proofs.catalog.gives.meet_all.Given as goal

abbrev pub invariant-scripts : goal.invariant-scripts
invariant-scripts l = (before : List Guid) → AreMet before l.fn.met → AreMet (before ++ named_in_all (take l.actions-index l.blocks)) l.met
