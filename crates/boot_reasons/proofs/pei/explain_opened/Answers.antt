use Rattle.pei_dispatch.specs.Choices.{LetsPeims}
use Rattle.boot_reasons.specs.Unseen.{NamesUnseen}
use Rattle.boot_reasons.proofs.PeiEnds.{at_opening, explains_run, stands_at_end}
use Rattle.boot_reasons.proofs.pei.explain_opened.Goals as goal

pub run_to_end-requires-clause-opening : goal.run_to_end-requires-clause-opening
run_to_end-requires-clause-opening g c =
    let names = NamesUnseen (g.C.Choice.rules c.args.choice.now) c.args.catalog.now in
    let lets = LetsPeims (g.C.Choice.rules c.args.choice.now) c.args.catalog.now in
    let catalog = c.args.catalog.now in
    let board = c.requires.opening.0 in
    let fuel = c.requires.opening.1 in
    let made = c.requires.opening.2 in
    let stand = c.requires.opening.3 in (
      board,
      fuel,
      (
        made,
        at_opening c.pei_opens.ensures.opens names lets g.M.PeiStore.stands_for board catalog fuel c.args.pei.now c.args.queue.now c.new-told.result (c.requires.queue board fuel made stand)
            c.new-told.ensures.begun c.new-told.ensures.givers c.new-told.ensures.moved,
      ),
    )

pub explain_end-requires : goal.explain_end-requires
explain_end-requires g c =
    let names = NamesUnseen (g.C.Choice.rules c.args.choice.now) c.args.catalog.now in
    let lets = LetsPeims (g.C.Choice.rules c.args.choice.now) c.args.catalog.now in
    let catalog = c.args.catalog.now in
    let board = c.requires.opening.0 in
    let fuel = c.requires.opening.1 in
    let made = c.requires.opening.2 in
    let stand = c.requires.opening.3 in
    let at = at_opening c.pei_opens.ensures.opens names lets g.M.PeiStore.stands_for board catalog fuel c.args.pei.now c.args.queue.now c.new-told.result (c.requires.queue board fuel made stand)
    c.new-told.ensures.begun c.new-told.ensures.givers c.new-told.ensures.moved in
    let row = rw c.in-Ok-End.field-0-is at (c.in-Ok-End.ensures.row board fuel (made, at)) in
    record { state = stands_at_end names lets g.M.PeiStore.stands_for board catalog fuel c.run_to_end.new.pei c.run_to_end.new.queue c.run_to_end.new.told c.in-Ok-End.end row }

pub returns-in-Ok : goal.returns-in-Ok
returns-in-Ok g c = record {
  row = λ board fuel made stand.
      let names = NamesUnseen (g.C.Choice.rules c.args.choice.now) c.args.catalog.now in
      let lets = LetsPeims (g.C.Choice.rules c.args.choice.now) c.args.catalog.now in
      let catalog = c.args.catalog.now in
      let at = at_opening c.pei_opens.ensures.opens names lets g.M.PeiStore.stands_for board catalog fuel c.args.pei.now c.args.queue.now c.new-told.result (c.requires.queue board fuel made stand)
      c.new-told.ensures.begun c.new-told.ensures.givers c.new-told.ensures.moved in
      let row = rw c.in-Ok-End.field-0-is at (c.in-Ok-End.ensures.row board fuel (made, at)) in
      explains_run names lets g.M.PeiStore.stands_for board catalog fuel c.run_to_end.new.pei c.run_to_end.new.queue c.run_to_end.new.told c.in-Ok-End.end c.in-Ok.explained row c.in-Ok.ensures;
}

pub returns-in-Ok-Barred : goal.returns-in-Ok-Barred
returns-in-Ok-Barred g c = record {
  row = λ board fuel made stand.
      let names = NamesUnseen (g.C.Choice.rules c.args.choice.now) c.args.catalog.now in
      let lets = LetsPeims (g.C.Choice.rules c.args.choice.now) c.args.catalog.now in
      let at = at_opening c.pei_opens.ensures.opens names lets g.M.PeiStore.stands_for board c.args.catalog.now fuel c.args.pei.now c.args.queue.now c.new-told.result (c.requires.queue board fuel made stand)
      c.new-told.ensures.begun c.new-told.ensures.givers c.new-told.ensures.moved in
      rw c.in-Ok-Barred.field-0-is at (c.in-Ok-Barred.ensures.row board fuel (made, at));
}
