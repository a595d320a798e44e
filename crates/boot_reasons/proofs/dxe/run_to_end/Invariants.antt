use Rattle.std.proofs.Common.{ℕ}
use Rattle.store_model.specs.StoreState.{StoreState}
use Rattle.boot_model.specs.DxeRun.{dxe_opening}
use Rattle.dxe_dispatch.specs.{Queue.IsQueueFor, Choices.NamesDrivers, Passes.told_in_dxe}
use Rattle.dxe_core.specs.Standing.{IsFor}
use Rattle.boot_reasons.specs.DxeTelling.{IsAtOpening}
use Rattle.boot_reasons.specs.Unseen.{LetsUnseenAfter, nowhere, unseen_behind, unseen_by}
use Rattle.boot_reasons.proofs.DxeSteps.{IsComing}
use Rattle.boot_reasons.proofs.dxe.run_to_end.Given as goal

-- a run by these choices leads to the machine for which the core and the agenda stand, and all of it is told
abbrev pub invariant-turns : goal.invariant-turns
invariant-turns g l = record {
  way : (s : StoreState) (actions fuel : ℕ) → IsAtOpening g.M.PeiStore.stands_for l.fn.store l.fn.catalog fuel s actions (g.C.Choice.rules l.fn.choice).wants_turn l.fn.dxe l.fn.agenda l.fn.told
      → IsComing (NamesDrivers (unseen_by (g.C.Choice.rules l.fn.choice)) (told_in_dxe (unseen_behind (g.C.Choice.rules l.fn.choice) l.fn.in_pei) l.fn.catalog fuel (dxe_opening l.fn.catalog s actions)) nowhere)
      (LetsUnseenAfter (g.C.Choice.rules l.fn.choice) l.fn.in_pei l.fn.catalog fuel (dxe_opening l.fn.catalog s actions)) g.M.PeiStore.stands_for l.fn.store l.fn.catalog fuel
      (dxe_opening l.fn.catalog s actions) l.counter (g.C.Choice.rules l.fn.choice).wants_turn l.dxe l.agenda l.told;
  made : (fuel : ℕ) → IsFor l.fn.catalog fuel l.fn.dxe → IsFor l.fn.catalog fuel l.dxe;
  queue : IsQueueFor l.fn.catalog l.agenda.queue;
}
