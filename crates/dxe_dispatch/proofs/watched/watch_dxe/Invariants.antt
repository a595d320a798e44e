use Rattle.std.proofs.Common.{◌≡◌, ◌+◌, ℕ}
use Rattle.store_model.specs.StoreState.{StoreState}
use Rattle.boot_model.specs.DxeRun.{dxe_opening}
use Rattle.dxe_dispatch.specs.{Choices.came, Passes.queued, PassList.IsPassListOf, Queue.IsQueueFor, Queue.owed}
use Rattle.dxe_core.specs.Standing.{IsFor, StandsFor}
use Rattle.dxe_dispatch.proofs.ChosenWays.{IsComing}
use Rattle.dxe_dispatch.proofs.Following.{choice_of, lets_along, names_along}
use Rattle.dxe_dispatch.proofs.watched.watch_dxe.Given as goal

-- the core and the queue stand for a machine of a run by these choices, and what is kept of EDK2's queue is what it is there
abbrev pub invariant-turns : goal.invariant-turns
invariant-turns g l =
    let T = g.S.Sink.text in
    let F = g.S.Sink.faults in
    let rules = g.C.Choice.rules l.fn.choice in
    let choice = choice_of rules T F l.fn.in_pei in
    let catalog = l.fn.catalog in
    record {
      way : (s : StoreState) (actions fuel : ℕ) → IsFor catalog fuel l.fn.dxe → StandsFor g.M.PeiStore.stands_for l.fn.store catalog l.fn.dxe (dxe_opening catalog s actions)
          → let opening = dxe_opening catalog s actions in
          (way : IsComing (names_along choice catalog fuel opening l.fn.sink) (lets_along choice catalog fuel opening) T F g.M.PeiStore.stands_for l.fn.store catalog fuel
          opening l.fn.sink l.counter l.dxe l.agenda.queue l.sink l.fn.steps (l.steps + owed l.agenda.queue))
          × g.W.DxeWatch.knows l.watch catalog fuel opening way.earlier
          × IsPassListOf catalog rules.wants_turn (came catalog fuel opening way.earlier) (queued catalog fuel opening way.earlier) l.agenda.passes;
      made : (fuel : ℕ) → IsFor catalog fuel l.fn.dxe → IsFor catalog fuel l.dxe;
      queue : IsQueueFor catalog l.agenda.queue;
      count : F l.sink ≡ F l.fn.sink;
    }
