use Rattle.std.proofs.Common.{arith, ◌≡◌, ◌∙◌, ap}
use Rattle.boot_model.specs.PeiRun.{pei_bound}
use Rattle.pei_dispatch.specs.Choices.{LetsPeims}
use Rattle.boot_reasons.specs.Unseen.{NamesUnseen}
use Rattle.boot_reasons.proofs.PeiEnds.{never_all, on_way, way_on, way_over}
use Rattle.boot_reasons.proofs.PeiSteps.{Laws}
use Rattle.boot_reasons.proofs.pei.run_to_end.Goals as goal

pub turns-init : goal.turns-init
turns-init g c = record {
  way = λ board fuel opening.
      on_way c.pei_opens.ensures.opens (NamesUnseen (g.C.Choice.rules c.args.choice.now) c.args.catalog.now) (LetsPeims (g.C.Choice.rules c.args.choice.now) c.args.catalog.now) g.M.PeiStore.stands_for board c.args.catalog.now fuel c.args.pei.now c.args.queue.now c.args.told.now opening.1;
  made = λ fuel made. made;
}

pub turn-requires-clause-made : goal.turn-requires-clause-made
turn-requires-clause-made g c = (c.requires.opening.1, c.turns.invariant.made c.requires.opening.1 c.requires.opening.2.0)

pub turn-requires-clause-state : goal.turn-requires-clause-state
turn-requires-clause-state g c =
    let way = c.turns.invariant.way c.requires.opening.0 c.requires.opening.1 c.requires.opening.2 in
    (way.m, way.at.now)

pub turns-preserved : goal.turns-preserved
turns-preserved g c = record {
  way = λ board fuel opening.
      let catalog = c.args.catalog.now in
      let names = NamesUnseen (g.C.Choice.rules c.args.choice.now) c.args.catalog.now in
      let lets = LetsPeims (g.C.Choice.rules c.args.choice.now) c.args.catalog.now in
      let laws : Laws = record { aims = c.cursor_aims.ensures.aims; own = c.pei_starts_freely.ensures.own; nearer = c.pei_opens.ensures.nearer } in
      let way = c.turns.invariant.way board fuel opening in
      let row = rw c.in_default.is at (c.in_ok-reached.ensures.row board fuel way.earlier way.m (c.turns.invariant.made fuel opening.0) way.at) in
      way_on laws names lets g.M.PeiStore.stands_for board catalog fuel c.turns.counter c.turns.pei c.turn.new.pei c.turns.queue c.turn.new.queue c.turns.told c.turn.new.told way row;
  made = λ fuel made. c.in_ok-reached.ensures.made fuel (c.turns.invariant.made fuel made);
}

pub returns-in-Some : goal.returns-in-Some
returns-in-Some g c = record {
  row = λ board fuel opening.
      let names = NamesUnseen (g.C.Choice.rules c.args.choice.now) c.args.catalog.now in
      let lets = LetsPeims (g.C.Choice.rules c.args.choice.now) c.args.catalog.now in
      let way = c.turns.invariant.way board fuel opening in
      let row = rw c.in-Some.is at (c.in_ok-reached.ensures.row board fuel way.earlier way.m (c.turns.invariant.made fuel opening.0) way.at) in
      way_over names lets g.M.PeiStore.stands_for board c.args.catalog.now fuel c.turns.counter c.turns.pei c.turn.new.pei c.turns.queue c.turn.new.queue c.turns.told c.turn.new.told c.in-Some.reached way row;
}

pub unreachable-requires : goal.unreachable-requires
unreachable-requires g c =
    let catalog = c.args.catalog.now in
    let board = c.requires.opening.0 in
    let fuel = c.requires.opening.1 in
    let names = NamesUnseen (g.C.Choice.rules c.args.choice.now) c.args.catalog.now in
    let lets = LetsPeims (g.C.Choice.rules c.args.choice.now) c.args.catalog.now in
    let all : c.bound-end.result ≡ pei_bound catalog fuel = c.bound-end.ensures ∙ ap (pei_bound catalog) (c.fuel.ensures catalog fuel c.requires.opening.2.0) in
    let done = c.turns-test.false in
    never_all c.pei_opens.ensures.ended names lets g.M.PeiStore.stands_for board catalog fuel c.turns.counter c.turns.pei c.turns.queue c.turns.told
    (c.turns.invariant.way board fuel c.requires.opening.2) (omega (arith, all, done))
