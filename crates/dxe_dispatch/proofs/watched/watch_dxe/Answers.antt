use Rattle.std.proofs.Common.{arith, ◌≡◌, ◌<◌, ◌+◌, ◌^◌, sym, ap, ◌∙◌, subst}
use Rattle.std.proofs.lemmas.Result.{err_from_is_err_and}
use Rattle.boot_model.specs.{DxeChoice.a_priori_drivers, DxeRun.dxe_opening, DxeRun.dxe_bound, DxeStep.dxe_step}
use Rattle.dxe_core.specs.Order.{Drivers, IsOrderOf}
use Rattle.dxe_dispatch.specs.{Queue.owed, Choices.came, Passes.queued, Passes.told_in_dxe}
use Rattle.dxe_dispatch.proofs.Chosen.{StepLaws}
use Rattle.dxe_dispatch.proofs.ChosenWays.{coming_few, coming_on, coming_stops, few_left, few_over, none_evaluated, opening_comes, opening_drivers, opening_halts, opening_part, turn_to_come}
use Rattle.dxe_dispatch.proofs.Following.{choice_of, lets_along, names_along, opening_passes}
use Rattle.dxe_dispatch.proofs.Watching.{says_told, halts_watched, has_reached, opening_now, reached_watched, stands_there, was_step}
use Rattle.dxe_dispatch.proofs.watched.watch_dxe.Goals as goal

pub discover-requires-clause-new : goal.discover-requires-clause-new
discover-requires-clause-new g c =
    let catalog = c.args.catalog.now in
    let s = c.requires.opening.0 in
    let actions = c.requires.opening.1 in
    let stands = c.requires.opening.2 in
    let order = subst (IsOrderOf catalog _) (sym c.order-2.ensures) stands.core.services.order in
    let shown = c.volumes-volumes.ensures ∙ ap (λ (order : Drivers). order.volumes) c.order.ensures ∙ stands.core.services.order.volumes_are in
    opening_drivers catalog c.args.agenda.now.queue c.order-2.result.now (dxe_opening catalog s actions) c.volumes-volumes.result.now shown c.requires.new order (c.discovered_order_has_each_once.ensures catalog c.requires.catalog.parents c.requires.made.0 0 s actions).once

pub returns-in_err-discover-clause-row : goal.returns-in_err-discover-clause-row
returns-in_err-discover-clause-row g c s actions fuel made stands =
    let T = g.S.Sink.text in
    let catalog = c.args.catalog.now in
    let F = g.S.Sink.faults in
    let choice = choice_of (g.C.Choice.rules c.args.choice.now) T F c.args.in_pei in
    let opening = dxe_opening catalog s actions in
    let Names = names_along choice catalog fuel opening c.args.sink.now in
    let Lets = lets_along choice catalog fuel opening in
    let p = err_from_is_err_and c.from_residual.result c.from_residual.ensures.1 in
    halts_watched _ _ _ c.from_residual.result p.0 p.1 (opening_part Names Lets catalog fuel s actions (T c.args.sink.now))

pub returns-in_err-discover-2-clause-row : goal.returns-in_err-discover-2-clause-row
returns-in_err-discover-2-clause-row g c s actions fuel made stands =
    let T = g.S.Sink.text in
    let catalog = c.args.catalog.now in
    let F = g.S.Sink.faults in
    let choice = choice_of (g.C.Choice.rules c.args.choice.now) T F c.args.in_pei in
    let opening = dxe_opening catalog s actions in
    let Names = names_along choice catalog fuel opening c.args.sink.now in
    let Lets = lets_along choice catalog fuel opening in
    let p = err_from_is_err_and c.from_residual-in_err-discover-2.result c.from_residual-in_err-discover-2.ensures.1 in
    halts_watched _ _ _ c.from_residual-in_err-discover-2.result p.0 p.1 (opening_part Names Lets catalog fuel s actions (T c.args.sink.now))

pub returns-in_err-discover-clause-few_steps : goal.returns-in_err-discover-clause-few_steps
returns-in_err-discover-clause-few_steps g c s actions fuel made stands =
    let choice = choice_of (g.C.Choice.rules c.args.choice.now) g.S.Sink.text g.S.Sink.faults c.args.in_pei in
    let catalog = c.args.catalog.now in
    let opening = dxe_opening catalog s actions in
    none_evaluated (names_along choice catalog fuel opening c.args.sink.now) (lets_along choice catalog fuel opening) catalog fuel opening c.args.steps.now

pub returns-in_err-put_volumes-clause-row : goal.returns-in_err-put_volumes-clause-row
returns-in_err-put_volumes-clause-row g c s actions fuel made stands =
    let T = g.S.Sink.text in
    let catalog = c.args.catalog.now in
    let F = g.S.Sink.faults in
    let choice = choice_of (g.C.Choice.rules c.args.choice.now) T F c.args.in_pei in
    let opening = dxe_opening catalog s actions in
    let Names = names_along choice catalog fuel opening c.args.sink.now in
    let Lets = lets_along choice catalog fuel opening in
    let shown = c.volumes-volumes.ensures ∙ ap (λ (order : Drivers). order.volumes) c.order.ensures ∙ stands.core.services.order.volumes_are in
    let p = err_from_is_err_and c.from_residual-in_err-put_volumes.result c.from_residual-in_err-put_volumes.ensures.1 in
    halts_watched _ _ _ c.from_residual-in_err-put_volumes.result p.0 p.1 (opening_halts Names Lets catalog fuel s actions c.volumes-volumes.result.now (T c.args.sink.now) (T c.put_volumes.new.sink) shown c.in_err-put_volumes.ensures.text)

pub returns-in_err-put_volumes-clause-few_steps : goal.returns-in_err-put_volumes-clause-few_steps
returns-in_err-put_volumes-clause-few_steps g c s actions fuel made stands =
    let choice = choice_of (g.C.Choice.rules c.args.choice.now) g.S.Sink.text g.S.Sink.faults c.args.in_pei in
    let catalog = c.args.catalog.now in
    let opening = dxe_opening catalog s actions in
    none_evaluated (names_along choice catalog fuel opening c.args.sink.now) (lets_along choice catalog fuel opening) catalog fuel opening c.args.steps.now

pub begins-requires-clause-state : goal.begins-requires-clause-state
begins-requires-clause-state g c =
    let s = c.requires.opening.0 in
    let actions = c.requires.opening.1 in
    let stands = c.requires.opening.2 in
    let shown = c.volumes-volumes.ensures ∙ ap (λ (order : Drivers). order.volumes) c.order.ensures ∙ stands.core.services.order.volumes_are in (
      dxe_opening c.args.catalog.now s actions,
      opening_now g.M.PeiStore.stands_for c.args.store.now c.args.catalog.now s actions c.args.dxe.now c.args.agenda.now.queue c.discover.new.self c.volumes-volumes.result.now stands c.requires.new shown c.in_ok-discover.ensures.row,
    )

pub turns-init : goal.turns-init
unfolding opening_comes
turns-init g c = record {
  way = λ s actions fuel made stands.
      let T = g.S.Sink.text in
      let F = g.S.Sink.faults in
      let catalog = c.args.catalog.now in
      let choice = choice_of (g.C.Choice.rules c.args.choice.now) T F c.args.in_pei in
      let opening = dxe_opening catalog s actions in
      let Names = names_along choice catalog fuel opening c.args.sink.now in
      let Lets = lets_along choice catalog fuel opening in
      let shown = c.volumes-volumes.ensures ∙ ap (λ (order : Drivers). order.volumes) c.order.ensures ∙ stands.core.services.order.volumes_are in (
        opening_comes c.dxe_opens.ensures.opens c.unrequested_drivers_wait.ensures Names Lets T F g.M.PeiStore.stands_for c.args.store.now catalog fuel s actions c.args.sink.now c.args.dxe.now c.args.agenda.now.queue c.discover.new.self c.volumes-volumes.result.now c.put_volumes.new.sink c.args.steps.now
            c.requires.catalog stands c.requires.new c.in_ok-discover.ensures.row c.in_ok-discover.ensures.owes shown c.in_ok-put_volumes.ensures.text c.in_ok-put_volumes.ensures.cause,
        c.begins.ensures.knows s actions fuel (opening_now g.M.PeiStore.stands_for c.args.store.now catalog s actions c.args.dxe.now c.args.agenda.now.queue c.discover.new.self c.volumes-volumes.result.now stands c.requires.new shown c.in_ok-discover.ensures.row),
        opening_passes catalog (g.C.Choice.rules c.args.choice.now).wants_turn opening c.volumes-volumes.result.now c.args.agenda.now.passes c.discover-2.new.self c.requires.passes (ap (a_priori_drivers catalog) (sym shown)) shown c.in_ok-discover-2.ensures,
      );
  made = λ fuel made. made;
  queue = c.in_ok-discover.ensures.made;
  count = c.in_ok-put_volumes.ensures.cause;
}

pub turn_by-requires-clause-state : goal.turn_by-requires-clause-state
turn_by-requires-clause-state g c =
    let both = c.turns.invariant.way c.requires.opening.0 c.requires.opening.1 c.requires.made.0 c.requires.made.1 c.requires.opening.2 in
    let way = both.0 in
    (came c.args.catalog.now c.requires.made.0 (dxe_opening c.args.catalog.now c.requires.opening.0 c.requires.opening.1) way.earlier, c.requires.made.0, c.turns.invariant.made c.requires.made.0 c.requires.made.1, way.on)

pub saw-requires-clause-state : goal.saw-requires-clause-state
saw-requires-clause-state g c =
    let catalog = c.args.catalog.now in
    let fuel = c.requires.made.0 in
    let opening = dxe_opening catalog c.requires.opening.0 c.requires.opening.1 in
    let both = c.turns.invariant.way c.requires.opening.0 c.requires.opening.1 fuel c.requires.made.1 c.requires.opening.2 in
    let way = both.0 in
    let row = rw c.in-Took.is at (c.in_ok-step.ensures.row _ fuel c.args.sink.now (queued catalog fuel opening way.earlier) (c.turns.invariant.made fuel c.requires.made.1) way.on way.has both.2) in
    (dxe_step catalog fuel row.0.target, row.0.turned.0.now)

pub turns-preserved : goal.turns-preserved
unfolding coming_on
turns-preserved g c = record {
  way = λ s actions fuel made stands.
      let T = g.S.Sink.text in
      let F = g.S.Sink.faults in
      let catalog = c.args.catalog.now in
      let laws : StepLaws = record { nearer = c.dxe_opens.ensures.nearer; own = c.dxe_goes_on.ensures.own; first = c.dxe_chooses_by_groups.ensures; groups = c.groups_are_aimed.ensures } in
      let choice = choice_of (g.C.Choice.rules c.args.choice.now) T F c.args.in_pei in
      let opening = dxe_opening catalog s actions in
      let Names = names_along choice catalog fuel opening c.args.sink.now in
      let Lets = lets_along choice catalog fuel opening in
      let both = c.turns.invariant.way s actions fuel made stands in
      let way = both.0 in
      let row = rw c.in-Took.is at (c.in_ok-step.ensures.row _ fuel c.args.sink.now (queued catalog fuel opening way.earlier) (c.turns.invariant.made fuel made) way.on way.has both.2) in (
        coming_on laws Names Lets T F g.M.PeiStore.stands_for c.args.store.now catalog fuel opening c.args.sink.now c.turns.counter c.turns.dxe c.turn_by.new.dxe c.turns.agenda.queue c.turn_by.new.agenda.queue c.turns.sink c.turn_by.new.sink
            c.args.steps.now (c.turns.steps + owed c.turns.agenda.queue) (c.turn_by.new.steps + owed c.turn_by.new.agenda.queue) c.in-Took.step c.requires.catalog way row.0 c.in_ok-step.ensures.faults,
        c.saw.ensures.knows_more fuel opening way.earlier row.0.target both.1
            (was_step Names Lets T F g.M.PeiStore.stands_for c.args.store.now catalog fuel opening c.args.sink.now c.turns.counter c.turns.dxe c.turn_by.new.dxe c.turns.agenda.queue c.turn_by.new.agenda.queue c.turns.sink c.turn_by.new.sink
            c.args.steps.now (c.turns.steps + owed c.turns.agenda.queue) (c.turn_by.new.steps + owed c.turn_by.new.agenda.queue) c.in-Took.step way row.0)
            row.0.turned.0.now,
        row.1,
      );
  made = λ fuel made. c.in_ok-step.ensures.made fuel (c.turns.invariant.made fuel made);
  queue = c.in_ok-step.ensures.queue;
  count = c.in_ok-step.ensures.faults ∙ c.turns.invariant.count;
}

pub ends-requires-clause-state : goal.ends-requires-clause-state
ends-requires-clause-state g c =
    let T = g.S.Sink.text in
    let F = g.S.Sink.faults in
    let catalog = c.args.catalog.now in
    let choice = choice_of (g.C.Choice.rules c.args.choice.now) T F c.args.in_pei in
    let s = c.requires.opening.0 in
    let actions = c.requires.opening.1 in
    let fuel = c.requires.made.0 in
    let opening = dxe_opening catalog s actions in
    let Names = names_along choice catalog fuel opening c.args.sink.now in
    let Lets = lets_along choice catalog fuel opening in
    let made = c.requires.made.1 in
    let both = c.turns.invariant.way s actions fuel made c.requires.opening.2 in
    let way = both.0 in
    stands_there g.M.PeiStore.stands_for c.args.store.now catalog fuel opening way.earlier c.turn_by.new.dxe c.turn_by.new.agenda.queue c.in-Reached.reached
    (has_reached c.dxe_chooses_by_groups.ensures Names Lets T F g.M.PeiStore.stands_for c.args.store.now catalog fuel opening c.args.sink.now c.turns.counter c.turns.dxe c.turn_by.new.dxe c.turns.agenda.queue c.turn_by.new.agenda.queue c.turns.sink c.turn_by.new.sink
    c.args.steps.now (c.turns.steps + owed c.turns.agenda.queue) (c.turn_by.new.steps + owed c.turn_by.new.agenda.queue) c.in-Reached.reached way
    (rw c.in-Reached.is at (c.in_ok-step.ensures.row _ fuel c.args.sink.now (queued catalog fuel opening way.earlier) (c.turns.invariant.made fuel made) way.on way.has both.2)).0)

pub returns-in-Reached-clause-row : goal.returns-in-Reached-clause-row
returns-in-Reached-clause-row g c s actions fuel made stands =
    let T = g.S.Sink.text in
    let F = g.S.Sink.faults in
    let catalog = c.args.catalog.now in
    let choice = choice_of (g.C.Choice.rules c.args.choice.now) T F c.args.in_pei in
    let opening = dxe_opening catalog s actions in
    let Names = names_along choice catalog fuel opening c.args.sink.now in
    let Lets = lets_along choice catalog fuel opening in
    let both = c.turns.invariant.way s actions fuel made stands in
    let way = both.0 in
    let row = rw c.in-Reached.is at (c.in_ok-step.ensures.row _ fuel c.args.sink.now (queued catalog fuel opening way.earlier) (c.turns.invariant.made fuel made) way.on way.has both.2) in
    let has = has_reached c.dxe_chooses_by_groups.ensures Names Lets T F g.M.PeiStore.stands_for c.args.store.now catalog fuel opening c.args.sink.now c.turns.counter c.turns.dxe c.turn_by.new.dxe c.turns.agenda.queue c.turn_by.new.agenda.queue c.turns.sink c.turn_by.new.sink
    c.args.steps.now (c.turns.steps + owed c.turns.agenda.queue) (c.turn_by.new.steps + owed c.turn_by.new.agenda.queue) c.in-Reached.reached way row.0 in
    let says = says_told c.dxe_chooses_by_groups.ensures c.groups_are_aimed.ensures choice g.M.PeiStore.stands_for c.args.store.now catalog fuel opening c.args.sink.now c.turns.counter c.turns.dxe c.turn_by.new.dxe c.turns.agenda.queue c.turn_by.new.agenda.queue c.turns.sink c.turn_by.new.sink
    c.args.steps.now (c.turns.steps + owed c.turns.agenda.queue) (c.turn_by.new.steps + owed c.turn_by.new.agenda.queue) c.turn_by.new.agenda.passes c.in-Reached.reached way row.0 row.1 in
    reached_watched c.dxe_chooses_by_groups.ensures Names Lets (told_in_dxe choice catalog fuel opening) c.args.in_pei T F g.M.PeiStore.stands_for c.args.store.now catalog fuel opening c.args.sink.now c.turns.counter c.turns.dxe c.turn_by.new.dxe c.turns.agenda.queue c.turn_by.new.agenda c.turns.sink c.turn_by.new.sink
    c.args.steps.now (c.turns.steps + owed c.turns.agenda.queue) (c.turn_by.new.steps + owed c.turn_by.new.agenda.queue) (g.W.DxeWatch.knows_all c.ends.new.self catalog fuel opening) c.in-Reached.reached way row.0 says
    (c.ends.ensures.knows_all fuel opening way.earlier has.all both.1 has.was has.left)

pub returns-in-Reached-clause-few_starts : goal.returns-in-Reached-clause-few_starts
returns-in-Reached-clause-few_starts g c =
    let T = g.S.Sink.text in
    let F = g.S.Sink.faults in
    let catalog = c.args.catalog.now in
    let laws : StepLaws = record { nearer = c.dxe_opens.ensures.nearer; own = c.dxe_goes_on.ensures.own; first = c.dxe_chooses_by_groups.ensures; groups = c.groups_are_aimed.ensures } in
    let choice = choice_of (g.C.Choice.rules c.args.choice.now) T F c.args.in_pei in
    let s = c.requires.opening.0 in
    let actions = c.requires.opening.1 in
    let fuel = c.requires.made.0 in
    let opening = dxe_opening catalog s actions in
    let Names = names_along choice catalog fuel opening c.args.sink.now in
    let Lets = lets_along choice catalog fuel opening in
    let made = c.requires.made.1 in
    let both = c.turns.invariant.way s actions fuel made c.requires.opening.2 in
    let way = both.0 in
    let few = few_left laws Names Lets T F g.M.PeiStore.stands_for c.args.store.now catalog fuel opening c.args.sink.now c.turns.counter c.turns.dxe c.turn_by.new.dxe c.turns.agenda.queue c.turn_by.new.agenda.queue c.turns.sink c.turn_by.new.sink
    c.args.steps.now (c.turns.steps + owed c.turns.agenda.queue) (c.turn_by.new.steps + owed c.turn_by.new.agenda.queue) c.in-Reached.reached c.requires.catalog way
    (rw c.in-Reached.is at (c.in_ok-step.ensures.row _ fuel c.args.sink.now (queued catalog fuel opening way.earlier) (c.turns.invariant.made fuel made) way.on way.has both.2)).0 in
    let modules = c.requires.catalog.few_modules in
    omega (arith, few, modules)

pub returns-in-Reached-clause-few : goal.returns-in-Reached-clause-few
returns-in-Reached-clause-few g c few =
    let T = g.S.Sink.text in
    let F = g.S.Sink.faults in
    let catalog = c.args.catalog.now in
    let laws : StepLaws = record { nearer = c.dxe_opens.ensures.nearer; own = c.dxe_goes_on.ensures.own; first = c.dxe_chooses_by_groups.ensures; groups = c.groups_are_aimed.ensures } in
    let choice = choice_of (g.C.Choice.rules c.args.choice.now) T F c.args.in_pei in
    let s = c.requires.opening.0 in
    let actions = c.requires.opening.1 in
    let fuel = c.requires.made.0 in
    let opening = dxe_opening catalog s actions in
    let Names = names_along choice catalog fuel opening c.args.sink.now in
    let Lets = lets_along choice catalog fuel opening in
    let stands = c.requires.opening.2 in
    let made = c.requires.made.1 in
    let both = c.turns.invariant.way s actions fuel made stands in
    let way = both.0 in
    let is : c.fuel.result ≡ fuel = c.fuel.ensures ∙ made.fuelled in
    let fits = c.fuel.type_inv in
    let below : fuel < 2 ^ 32 = omega (arith, is, fits) in
    few_over laws Names Lets T F g.M.PeiStore.stands_for c.args.store.now catalog fuel opening c.args.sink.now c.turns.counter c.args.dxe.now c.turns.dxe c.turn_by.new.dxe c.turns.agenda.queue c.turn_by.new.agenda.queue c.turns.sink c.turn_by.new.sink
    c.args.steps.now (c.turns.steps + owed c.turns.agenda.queue) (c.turn_by.new.steps + owed c.turn_by.new.agenda.queue) (2 ^ 32) c.in-Reached.reached below few stands.core (c.in_ok-step.ensures.made fuel (c.turns.invariant.made fuel made)) way
    (rw c.in-Reached.is at (c.in_ok-step.ensures.row _ fuel c.args.sink.now (queued catalog fuel opening way.earlier) (c.turns.invariant.made fuel made) way.on way.has both.2)).0

pub returns-in-Reached-clause-few_steps : goal.returns-in-Reached-clause-few_steps
returns-in-Reached-clause-few_steps g c s actions fuel made stands =
    let T = g.S.Sink.text in
    let F = g.S.Sink.faults in
    let catalog = c.args.catalog.now in
    let choice = choice_of (g.C.Choice.rules c.args.choice.now) T F c.args.in_pei in
    let opening = dxe_opening catalog s actions in
    let Names = names_along choice catalog fuel opening c.args.sink.now in
    let Lets = lets_along choice catalog fuel opening in
    coming_few Names Lets T F g.M.PeiStore.stands_for c.args.store.now catalog fuel opening c.args.sink.now c.turns.counter c.turns.dxe c.turns.agenda.queue c.turns.sink c.args.steps.now (c.turns.steps + owed c.turns.agenda.queue) c.turn_by.new.steps
    (c.turns.invariant.way s actions fuel made stands).0 c.in_ok-step.ensures.few_steps

pub returns-in_err-step-clause-row : goal.returns-in_err-step-clause-row
returns-in_err-step-clause-row g c s actions fuel made stands =
    let T = g.S.Sink.text in
    let F = g.S.Sink.faults in
    let catalog = c.args.catalog.now in
    let choice = choice_of (g.C.Choice.rules c.args.choice.now) T F c.args.in_pei in
    let opening = dxe_opening catalog s actions in
    let Names = names_along choice catalog fuel opening c.args.sink.now in
    let Lets = lets_along choice catalog fuel opening in
    let both = c.turns.invariant.way s actions fuel made stands in
    let way = both.0 in
    let p = err_from_is_err_and c.from_residual-in_err-step.result c.from_residual-in_err-step.ensures.1 in
    halts_watched _ _ _ c.from_residual-in_err-step.result p.0 p.1 (coming_stops c.dxe_chooses_by_groups.ensures Names Lets T F g.M.PeiStore.stands_for c.args.store.now catalog fuel opening c.args.sink.now c.turns.counter c.turns.dxe c.turn_by.new.dxe c.turns.agenda.queue c.turn_by.new.agenda.queue c.turns.sink c.turn_by.new.sink
    c.args.steps.now (c.turns.steps + owed c.turns.agenda.queue) (c.turn_by.new.steps + owed c.turn_by.new.agenda.queue) _ way
    (c.in_err-step.ensures.row _ fuel c.args.sink.now (queued catalog fuel opening way.earlier) (c.turns.invariant.made fuel made) way.on way.has both.2))

pub returns-in_err-step-clause-few_steps : goal.returns-in_err-step-clause-few_steps
returns-in_err-step-clause-few_steps g c s actions fuel made stands =
    let T = g.S.Sink.text in
    let F = g.S.Sink.faults in
    let catalog = c.args.catalog.now in
    let choice = choice_of (g.C.Choice.rules c.args.choice.now) T F c.args.in_pei in
    let opening = dxe_opening catalog s actions in
    let Names = names_along choice catalog fuel opening c.args.sink.now in
    let Lets = lets_along choice catalog fuel opening in
    coming_few Names Lets T F g.M.PeiStore.stands_for c.args.store.now catalog fuel opening c.args.sink.now c.turns.counter c.turns.dxe c.turns.agenda.queue c.turns.sink c.args.steps.now (c.turns.steps + owed c.turns.agenda.queue) c.turn_by.new.steps
    (c.turns.invariant.way s actions fuel made stands).0 c.in_err-step.ensures.few_steps

pub unreachable-requires : goal.unreachable-requires
unreachable-requires g c =
    let T = g.S.Sink.text in
    let F = g.S.Sink.faults in
    let catalog = c.args.catalog.now in
    let choice = choice_of (g.C.Choice.rules c.args.choice.now) T F c.args.in_pei in
    let s = c.requires.opening.0 in
    let actions = c.requires.opening.1 in
    let fuel = c.requires.made.0 in
    let opening = dxe_opening catalog s actions in
    let Names = names_along choice catalog fuel opening c.args.sink.now in
    let Lets = lets_along choice catalog fuel opening in
    let made = c.requires.made.1 in
    let all : c.bound-end.result ≡ dxe_bound catalog fuel = c.bound-end.ensures ∙ ap (dxe_bound catalog) (c.fuel.ensures ∙ made.fuelled) in
    let done = c.turns-test.false in
    turn_to_come c.dxe_opens.ensures.ended Names Lets T F g.M.PeiStore.stands_for c.args.store.now catalog fuel opening c.args.sink.now c.turns.counter c.turns.dxe c.turns.agenda.queue c.turns.sink c.args.steps.now (c.turns.steps + owed c.turns.agenda.queue)
    (c.turns.invariant.way s actions fuel made c.requires.opening.2).0 (omega (arith, all, done))
