use Rattle.std.proofs.Common.{ℕ}
use Rattle.store_model.specs.StoreState.{Board}
use Rattle.pei_core.specs.Standing.{IsFor}
use Rattle.pei_dispatch.specs.Choices.{LetsPeims}
use Rattle.boot_reasons.specs.{PeiEnding.IsAtOpening, Unseen.NamesUnseen}
use Rattle.boot_reasons.proofs.PeiEnds.{IsOnWay}
use Rattle.boot_reasons.proofs.pei.run_to_end.Given as goal

-- a run by the choice leads to the machine for which the core and the queue stand, and all of it is told
abbrev pub invariant-turns : goal.invariant-turns
invariant-turns g l = record {
  way : (board : Board) (fuel : ℕ) → IsAtOpening (g.C.Choice.rules l.fn.choice) g.M.PeiStore.stands_for board l.fn.catalog fuel l.fn.pei l.fn.queue l.fn.told
      → IsOnWay (NamesUnseen (g.C.Choice.rules l.fn.choice) l.fn.catalog) (LetsPeims (g.C.Choice.rules l.fn.choice) l.fn.catalog) g.M.PeiStore.stands_for board l.fn.catalog fuel l.counter l.pei l.queue l.told;
  made : (fuel : ℕ) → IsFor l.fn.catalog fuel l.fn.pei → IsFor l.fn.catalog fuel l.pei;
}
