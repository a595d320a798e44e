use Rattle.std.proofs.Common.{◌≡◌, None, arith, refl, ap, ◌∙◌}
use Rattle.boot_model.specs.DxeRun.{dxe_bound, dxe_opening}
use Rattle.dxe_dispatch.specs.{Choices.NamesDrivers, Choices.came, Passes.queued, Passes.told_in_dxe}
use Rattle.dxe_dispatch.proofs.Chosen.{StepLaws}
use Rattle.boot_reasons.specs.Givers.{actor_by}
use Rattle.boot_reasons.specs.Unseen.{LetsUnseenAfter, NamesUnseenAfter, nowhere, unseen_behind, unseen_by}
use Rattle.boot_reasons.proofs.DxeSteps.{comes_first, told_further, told_to, turn_to_come, unseen}
use Rattle.boot_reasons.proofs.dxe.run_to_end.Goals as goal

pub turns-init : goal.turns-init
turns-init g c = record {
  way = λ s actions fuel at.
      let rules = g.C.Choice.rules c.args.choice.now in
      let opening = dxe_opening c.args.catalog.now s actions in
      let told = told_in_dxe (unseen_behind rules c.args.in_pei) c.args.catalog.now fuel opening in
      comes_first c.dxe_opens.ensures.opens (NamesDrivers (unseen_by rules) told nowhere) (LetsUnseenAfter rules c.args.in_pei c.args.catalog.now fuel opening)
      g.M.PeiStore.stands_for c.args.store.now c.args.catalog.now fuel s actions rules.wants_turn c.args.dxe.now c.args.agenda.now c.args.told.now c.requires.catalog at;
  made = λ fuel made. made;
  queue = c.requires.queue;
}

pub turn_by-requires-clause-state : goal.turn_by-requires-clause-state
turn_by-requires-clause-state g c =
    let o = c.requires.opening in
    let is = c.turns.invariant.way o.0 o.1 o.2 o.3 in
    (came c.args.catalog.now o.2 (dxe_opening c.args.catalog.now o.0 o.1) is.earlier, o.2, c.turns.invariant.made o.2 o.3.made, is.on)

pub returns-in-Ok-Reached : goal.returns-in-Ok-Reached
returns-in-Ok-Reached g c = record {
  row = λ s actions fuel at.
      let catalog = c.args.catalog.now in
      let rules = g.C.Choice.rules c.args.choice.now in
      let opening = dxe_opening catalog s actions in
      let told = told_in_dxe (unseen_behind rules c.args.in_pei) catalog fuel opening in
      let Names = NamesDrivers (unseen_by rules) told nowhere in
      let is = c.turns.invariant.way s actions fuel at in
      let row = rw c.in-Ok-Reached.field-0-is at (c.in-Ok-Reached.ensures.row (came catalog fuel opening is.earlier) fuel nowhere (queued catalog fuel opening is.earlier) (c.turns.invariant.made fuel at.made) is.on
      (record { put = tt; right = refl }) is.passes) in
      told_to c.dxe_chooses_by_groups.ensures Names (NamesUnseenAfter rules c.args.in_pei catalog fuel opening) (LetsUnseenAfter rules c.args.in_pei catalog fuel opening) g.M.PeiStore.stands_for c.args.store.now catalog fuel
      opening c.turns.counter rules.wants_turn c.turns.dxe c.turn_by.new.dxe c.turns.agenda c.turn_by.new.agenda.queue _ _ c.turns.told (record { old = None; new = None }) c.in-Ok-Reached.reached refl (unseen rules told) is row.0;
}

pub turns-preserved : goal.turns-preserved
turns-preserved g c = record {
  way = λ s actions fuel at.
      let catalog = c.args.catalog.now in
      let rules = g.C.Choice.rules c.args.choice.now in
      let opening = dxe_opening catalog s actions in
      let told = told_in_dxe (unseen_behind rules c.args.in_pei) catalog fuel opening in
      let laws : StepLaws = record { nearer = c.dxe_opens.ensures.nearer; own = c.dxe_goes_on.ensures.own; first = c.dxe_chooses_by_groups.ensures; groups = c.groups_are_aimed.ensures } in
      let is = c.turns.invariant.way s actions fuel at in
      let row = rw c.in-Ok-Took.field-0-is at (c.in-Ok-Took.ensures.row (came catalog fuel opening is.earlier) fuel nowhere (queued catalog fuel opening is.earlier) (c.turns.invariant.made fuel at.made) is.on
      (record { put = tt; right = refl }) is.passes) in
      told_further laws (NamesDrivers (unseen_by rules) told nowhere) (LetsUnseenAfter rules c.args.in_pei catalog fuel opening) g.M.PeiStore.stands_for c.args.store.now catalog fuel
      opening c.turns.counter rules.wants_turn c.turns.dxe c.turn_by.new.dxe c.turns.agenda c.turn_by.new.agenda _ _ c.turns.told c.tell.new.told (record { old = None; new = None }) c.actor-actor.result c.in-Ok-Took.step c.requires.catalog refl is
      row.0 row.1 (c.actor-actor.ensures ∙ ap actor_by c.running.ensures) c.in_ok-tell-in-Ok-Took.ensures;
  made = λ fuel made. c.in-Ok-Took.ensures.made fuel (c.turns.invariant.made fuel made);
  queue = c.in-Ok-Took.ensures.queue;
}

pub unreachable-requires : goal.unreachable-requires
unreachable-requires g c =
    let catalog = c.args.catalog.now in
    let o = c.requires.opening in
    let rules = g.C.Choice.rules c.args.choice.now in
    let opening = dxe_opening catalog o.0 o.1 in
    let Names = NamesDrivers (unseen_by rules) (told_in_dxe (unseen_behind rules c.args.in_pei) catalog o.2 opening) nowhere in
    let all : c.bound-end.result ≡ dxe_bound catalog o.2 = c.bound-end.ensures ∙ ap (dxe_bound catalog) (c.fuel.ensures ∙ o.3.made.fuelled) in
    let done = c.turns-test.false in
    turn_to_come c.dxe_opens.ensures.ended Names (LetsUnseenAfter rules c.args.in_pei catalog o.2 opening) g.M.PeiStore.stands_for c.args.store.now catalog o.2 opening c.turns.counter rules.wants_turn c.turns.dxe c.turns.agenda c.turns.told
    (c.turns.invariant.way o.0 o.1 o.2 o.3) (omega (arith, all, done))
