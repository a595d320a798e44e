use Rattle.std.proofs.Common.{◌∙◌, ap}
use Rattle.boot_laws.specs.ChangedGuids.{IsKept}
use Rattle.boot_model.specs.PeiStep.{pei_step}
use Rattle.pei_dispatch.specs.Choices.{LetsPeims}
use Rattle.boot_reasons.specs.{Givers.actor_by, Unseen.NamesUnseen}
use Rattle.boot_reasons.proofs.PeiSteps.{Laws, cut_on, on_ok, went_on}
use Rattle.boot_reasons.proofs.pei_turn.turn.Goals as goal

pub go_on-requires-clause-made : goal.go_on-requires-clause-made
go_on-requires-clause-made g c = c.requires.made

pub go_on-requires-clause-state : goal.go_on-requires-clause-state
go_on-requires-clause-state g c = c.requires.state

pub tell_step-requires : goal.tell_step-requires
tell_step-requires g c =
    let m = c.requires.state.0 in
    let fuel = c.requires.made.0 in
    let row = rw c.in-Ok-Went.field-0-is at (c.in-Ok-Went.ensures.row m fuel c.requires.made.1 c.requires.state.1) in
    record { state = (pei_step c.args.catalog.now fuel m, row.2.now.machine) }

pub start_or_stop-requires-clause-made : goal.start_or_stop-requires-clause-made
start_or_stop-requires-clause-made g c = (c.requires.made.0, c.in-Ok-Idle.ensures.made c.requires.made.0 c.requires.made.1)

pub start_or_stop-requires-clause-state : goal.start_or_stop-requires-clause-state
start_or_stop-requires-clause-state g c =
    let rested = rw c.in-Ok-Idle.field-0-is at (c.in-Ok-Idle.ensures.row c.requires.state.0 c.requires.made.0 c.requires.made.1 c.requires.state.1) in
    (c.requires.state.0, rested.now, rested.idle)

pub returns-in-Ok-clause-row : goal.returns-in-Ok-clause-row
returns-in-Ok-clause-row g c board fuel earlier m made at =
    let catalog = c.args.catalog.now in
    let rules = g.C.Choice.rules c.args.choice.now in
    let laws : Laws = record { aims = c.cursor_aims.ensures.aims; own = c.pei_starts_freely.ensures.own; nearer = c.pei_opens.ensures.nearer } in
    let row = rw c.in-Ok-Went.field-0-is at (c.in-Ok-Went.ensures.row m fuel made at.now) in
    let machine = at.now.machine in
    let kept : IsKept m = record { facts = g.met.M.PeiStore.facts c.args.pei.now.store m.store machine.has.store; held = machine.sound.held } in
    let next = pei_step catalog fuel m in
    let told = c.in-Ok.ensures in (
      next,
      went_on c.guids_change.ensures c.guids_are_these.ensures laws (NamesUnseen rules catalog) (LetsPeims rules catalog) g.M.PeiStore.stands_for board catalog fuel earlier m c.args.pei.now c.go_on.new.pei c.args.queue.now c.go_on.new.queue
          c.args.told.now c.tell_step.new.told c.in-Ok-Went.event c.unmoved_base-from.result c.actor-actor.result _ at kept row.0 row.1 row.2
          (c.actor-actor.ensures ∙ ap actor_by (c.running.ensures m machine)) (c.unmoved_base-from.ensures m.store (c.store.ensures m machine) tt)
          (told.givers next row.2.now.machine) (told.moved next row.2.now.machine) told.begun,
    )

pub returns-in-Ok-Idle-clause-row : goal.returns-in-Ok-Idle-clause-row
returns-in-Ok-Idle-clause-row g c =
    on_ok _ _ c.start_or_stop.result
    (λ turned row board fuel earlier m made at.
    let rested = rw c.in-Ok-Idle.field-0-is at (c.in-Ok-Idle.ensures.row m fuel made at.now) in
    row board fuel earlier m (c.in-Ok-Idle.ensures.made fuel made) (record { run = at.run; way = at.way; now = rested.now; is_told = at.is_told }) rested.idle)
    c.start_or_stop.ensures.row

pub returns-in-Ok-Ended-clause-row : goal.returns-in-Ok-Ended-clause-row
returns-in-Ok-Ended-clause-row g c board fuel earlier m made at =
    let catalog = c.args.catalog.now in
    let rules = g.C.Choice.rules c.args.choice.now in
    let row = rw c.in-Ok-Ended.field-0-is at (c.in-Ok-Ended.ensures.row m fuel made at.now) in
    cut_on (NamesUnseen rules catalog) (LetsPeims rules catalog) g.M.PeiStore.stands_for board catalog fuel earlier m c.args.pei.now c.go_on.new.pei c.args.queue.now c.go_on.new.queue c.args.told.now c.in-Ok-Ended.end _ at row.0 row.1 row.2

pub unmoved_base-from-requires : goal.unmoved_base-from-requires
unmoved_base-from-requires g c = record { state = (c.requires.state.0.store, c.store.ensures c.requires.state.0 c.requires.state.1.machine, tt) }

pub returns-in-Ok-clause-made : goal.returns-in-Ok-clause-made
returns-in-Ok-clause-made g c = c.in-Ok-Went.ensures.made

pub returns-in-Err-tell_step-clause-made : goal.returns-in-Err-tell_step-clause-made
returns-in-Err-tell_step-clause-made g c = c.in-Ok-Went.ensures.made

pub returns-in-Ok-Idle-clause-made : goal.returns-in-Ok-Idle-clause-made
returns-in-Ok-Idle-clause-made g c fuel made = c.start_or_stop.ensures.made fuel (c.in-Ok-Idle.ensures.made fuel made)

pub returns-in-Ok-Ended-clause-made : goal.returns-in-Ok-Ended-clause-made
returns-in-Ok-Ended-clause-made g c = c.in-Ok-Ended.ensures.made

pub returns-in-Err-clause-made : goal.returns-in-Err-clause-made
returns-in-Err-clause-made g c = c.in-Err.ensures.made
