use Rattle.std.proofs.Common.{arith, ◌≡◌, ◌+◌, refl, sym, ap, ◌∙◌, subst}
use Rattle.std.proofs.lemmas.Result.{err_from_is_err_and}
use Rattle.boot_model.specs.{Licence.AllDiffer, PeiRun.pei_opening, PeiRun.pei_bound}
use Rattle.pei_dispatch.specs.View.{AreAlike, first_view, view_of, with_volumes}
use Rattle.pei_dispatch.specs.{Choices.LetsPeims, Choices.NamesPeims, Queue.owed_by}
use Rattle.pei_dispatch.proofs.ChosenFew.{few_at_end, none_evaluated, opening_few}
use Rattle.pei_dispatch.proofs.ChosenWays.{Laws, opened, opening_halts, opening_way, turn_to_come, way_halts, way_on}
use Rattle.pei_dispatch.proofs.Watching.{halts_watched, has_reached, reached_watched, stands_there, was_step}
use Rattle.boot_io.specs.declared.halt.Halt.TheVariants as H
use Rattle.pei_dispatch.proofs.watched.watch_pei.Goals as goal

pub report-requires-clause-new : goal.report-requires-clause-new
report-requires-clause-new g c =
    let opening = c.requires.opening.1 in
    let now : c.reported.result.now ≡ c.args.pei.now.core.reported = c.reported.ensures (pei_opening c.requires.opening.0 c.args.catalog.now) opening ∙ opening.has.fields.reported in
    (first_view, c.requires.queue.shows, subst AllDiffer (sym now) c.requires.made.1.known.differ)

pub returns-in_err-put_reports-clause-row : goal.returns-in_err-put_reports-clause-row
returns-in_err-put_reports-clause-row g c board fuel made stands =
    let T = g.S.Sink.text in
    let catalog = c.args.catalog.now in
    let L = NamesPeims (record { rules = g.C.Choice.rules c.args.choice.now; text = T; faults = g.S.Sink.faults }) c.args.catalog.now c.args.sink.now in
    let lets = LetsPeims (g.C.Choice.rules c.args.choice.now) c.args.catalog.now in
    let p = err_from_is_err_and c.from_residual.result c.from_residual.ensures.1 in
    halts_watched _ _ c.from_residual.result p.0 H.Sink p.1 p.2 (opening_halts L lets board catalog fuel c.reported-2.result.now (T c.args.sink.now) (T c.put_reports.new.sink) (c.reported-2.ensures (pei_opening board catalog) stands) c.in_err-put_reports.ensures.text)

pub begins-requires-clause-state : goal.begins-requires-clause-state
begins-requires-clause-state g c = (pei_opening c.requires.opening.0 c.args.catalog.now, c.requires.opening.1)

pub turns-init : goal.turns-init
unfolding opening_way
turns-init g c = record {
  way = λ board fuel made stands.
      let T = g.S.Sink.text in
      let F = g.S.Sink.faults in
      let catalog = c.args.catalog.now in
      let m = pei_opening board catalog in
      let L = NamesPeims (record { rules = g.C.Choice.rules c.args.choice.now; text = T; faults = F }) c.args.catalog.now c.args.sink.now in
      let lets = LetsPeims (g.C.Choice.rules c.args.choice.now) c.args.catalog.now in
      let volumes : c.reported.result.now ≡ m.reported = c.reported.ensures m stands in
      let now : c.reported.result.now ≡ c.args.pei.now.core.reported = volumes ∙ stands.has.fields.reported in
      let differ : AllDiffer c.reported.result.now = subst AllDiffer (sym now) made.known.differ in
      let alike : AreAlike (with_volumes c.reported.result.now first_view) (view_of m) = record { volumes = volumes; starts = λ n. refl; allows = λ n h. refl; installs = λ guid. refl } in
      let shows = c.alike_views_are_shown.ensures catalog c.report.new.self (with_volumes c.reported.result.now first_view) (view_of m) (c.report.ensures.shows first_view c.requires.queue.shows differ) alike in (
        opening_way c.pei_opens.ensures.opens L lets T F g.M.PeiStore.stands_for board catalog fuel c.args.pei.now c.args.sink.now c.report.new.self c.reported-2.result.now c.put_reports.new.sink c.args.steps.now (c.args.steps.now + owed_by c.report.new.self)
            (opened g.M.PeiStore.stands_for board catalog c.args.pei.now c.args.queue.now c.report.new.self stands c.requires.queue shows c.report.ensures.cursor c.report.ensures.walked)
            (c.reported-2.ensures m stands) c.in_ok-put_reports.ensures.text c.in_ok-put_reports.ensures.cause
            (opening_few catalog fuel m c.reported.result.now c.args.steps.now c.args.queue.now c.report.new.self volumes c.requires.queue c.report.ensures.owed),
        c.begins.ensures.knows board fuel stands,
      );
  made = λ fuel made. made;
  count = c.in_ok-put_reports.ensures.cause;
}

pub turn-requires-clause-made : goal.turn-requires-clause-made
turn-requires-clause-made g c = (c.requires.made.0, c.turns.invariant.made c.requires.made.0 c.requires.made.1)

pub turn-requires-clause-state : goal.turn-requires-clause-state
turn-requires-clause-state g c =
    let way = (c.turns.invariant.way c.requires.opening.0 c.requires.made.0 c.requires.made.1 c.requires.opening.1).0 in
    (way.m, way.now)

pub saw-requires-clause-state : goal.saw-requires-clause-state
saw-requires-clause-state g c =
    let way = (c.turns.invariant.way c.requires.opening.0 c.requires.made.0 c.requires.made.1 c.requires.opening.1).0 in
    let row = rw c.in-Took.is at (c.in_ok-step.ensures.row way.m c.requires.made.0 c.args.sink.now (c.turns.invariant.made c.requires.made.0 c.requires.made.1) way.now way.way way.has) in
    (row.later_m, row.turned.now.machine)

pub turns-preserved : goal.turns-preserved
unfolding way_on
turns-preserved g c = record {
  way = λ board fuel made stands.
      let T = g.S.Sink.text in
      let F = g.S.Sink.faults in
      let catalog = c.args.catalog.now in
      let L = NamesPeims (record { rules = g.C.Choice.rules c.args.choice.now; text = T; faults = F }) c.args.catalog.now c.args.sink.now in
      let lets = LetsPeims (g.C.Choice.rules c.args.choice.now) c.args.catalog.now in
      let laws : Laws = record { aims = c.cursor_aims.ensures.aims; own = c.pei_starts_freely.ensures.own; nearer = c.pei_opens.ensures.nearer } in
      let both = c.turns.invariant.way board fuel made stands in
      let way = both.0 in
      let row = rw c.in-Took.is at (c.in_ok-step.ensures.row way.m fuel c.args.sink.now (c.turns.invariant.made fuel made) way.now way.way way.has) in (
        way_on laws L lets T F g.M.PeiStore.stands_for catalog fuel (pei_opening board catalog) c.args.pei.now c.args.sink.now c.turns.counter c.turns.pei c.turn.new.pei c.turns.queue c.turn.new.queue c.turns.sink c.turn.new.sink
            c.args.steps.now (c.turns.steps + owed_by c.turns.queue) (c.turn.new.steps + owed_by c.turn.new.queue) c.in-Took.step way row c.in_ok-step.ensures.faults
            (c.in_ok-step.ensures.few_steps way.m fuel (c.turns.invariant.made fuel made) way.now),
        c.saw.ensures.knows_more fuel way.comes.earlier way.m row.later_m both.1 (was_step L lets catalog fuel way.m row.later_m c.in-Took.step row.taken) row.turned.now.machine,
      );
  made = λ fuel made. c.in_ok-step.ensures.made fuel (c.turns.invariant.made fuel made);
  count = c.in_ok-step.ensures.faults ∙ c.turns.invariant.count;
}

pub ends-requires-clause-state : goal.ends-requires-clause-state
ends-requires-clause-state g c =
    let T = g.S.Sink.text in
    let catalog = c.args.catalog.now in
    let L = NamesPeims (record { rules = g.C.Choice.rules c.args.choice.now; text = T; faults = g.S.Sink.faults }) c.args.catalog.now c.args.sink.now in
    let lets = LetsPeims (g.C.Choice.rules c.args.choice.now) c.args.catalog.now in
    let fuel = c.requires.made.0 in
    let way = (c.turns.invariant.way c.requires.opening.0 fuel c.requires.made.1 c.requires.opening.1).0 in
    let row = rw c.in-Reached.is at (c.in_ok-step.ensures.row way.m fuel c.args.sink.now (c.turns.invariant.made fuel c.requires.made.1) way.now way.way way.has) in
    stands_there g.M.PeiStore.stands_for catalog fuel way.comes.earlier way.m c.turn.new.pei c.turn.new.queue c.in-Reached.reached
    (has_reached L lets g.M.PeiStore.stands_for catalog fuel way.comes.earlier way.m (record { pei = c.turns.pei; queue = c.turns.queue; later = c.turn.new.pei; grown = c.turn.new.queue; texts = record { old = T c.turns.sink; new = T c.turn.new.sink } }) c.in-Reached.reached row)

pub returns-in-Reached-clause-row : goal.returns-in-Reached-clause-row
returns-in-Reached-clause-row g c board fuel made stands =
    let T = g.S.Sink.text in
    let F = g.S.Sink.faults in
    let catalog = c.args.catalog.now in
    let L = NamesPeims (record { rules = g.C.Choice.rules c.args.choice.now; text = T; faults = F }) c.args.catalog.now c.args.sink.now in
    let lets = LetsPeims (g.C.Choice.rules c.args.choice.now) c.args.catalog.now in
    let both = c.turns.invariant.way board fuel made stands in
    let way = both.0 in
    let row = rw c.in-Reached.is at (c.in_ok-step.ensures.row way.m fuel c.args.sink.now (c.turns.invariant.made fuel made) way.now way.way way.has) in
    let has = has_reached L lets g.M.PeiStore.stands_for catalog fuel way.comes.earlier way.m (record { pei = c.turns.pei; queue = c.turns.queue; later = c.turn.new.pei; grown = c.turn.new.queue; texts = record { old = T c.turns.sink; new = T c.turn.new.sink } }) c.in-Reached.reached row in
    reached_watched L lets T F g.M.PeiStore.stands_for catalog fuel (pei_opening board catalog) c.args.pei.now c.args.sink.now c.turns.counter c.turns.pei c.turn.new.pei c.turns.queue c.turn.new.queue c.turns.sink c.turn.new.sink (g.W.PeiWatch.knows_all c.ends.new.self catalog fuel) c.in-Reached.reached c.args.steps.now (c.turns.steps + owed_by c.turns.queue) way row
    (c.ends.ensures.knows_all fuel way.comes.earlier has.all way.m has.last both.1 has.was has.left)

pub returns-in_err-step-clause-row : goal.returns-in_err-step-clause-row
returns-in_err-step-clause-row g c board fuel made stands =
    let T = g.S.Sink.text in
    let F = g.S.Sink.faults in
    let catalog = c.args.catalog.now in
    let L = NamesPeims (record { rules = g.C.Choice.rules c.args.choice.now; text = T; faults = F }) c.args.catalog.now c.args.sink.now in
    let lets = LetsPeims (g.C.Choice.rules c.args.choice.now) c.args.catalog.now in
    let both = c.turns.invariant.way board fuel made stands in
    let way = both.0 in
    let p = err_from_is_err_and c.from_residual-in_err-step.result c.from_residual-in_err-step.ensures.1 in
    halts_watched _ _ c.from_residual-in_err-step.result p.0 c.in_err-step.field-0.0 p.1 p.2 (way_halts L lets T F g.M.PeiStore.stands_for catalog fuel (pei_opening board catalog) c.args.pei.now c.args.sink.now c.turns.counter c.turns.pei c.turn.new.pei c.turns.queue c.turn.new.queue c.turns.sink c.turn.new.sink c.in_err-step.field-0.0 c.args.steps.now (c.turns.steps + owed_by c.turns.queue) way
    (c.in_err-step.ensures.row way.m fuel c.args.sink.now (c.turns.invariant.made fuel made) way.now way.way way.has))

pub returns-in_err-put_reports-clause-few_steps : goal.returns-in_err-put_reports-clause-few_steps
returns-in_err-put_reports-clause-few_steps g c board fuel made stands =
    none_evaluated (NamesPeims (record { rules = g.C.Choice.rules c.args.choice.now; text = g.S.Sink.text; faults = g.S.Sink.faults }) c.args.catalog.now c.args.sink.now) (LetsPeims (g.C.Choice.rules c.args.choice.now) c.args.catalog.now) board c.args.catalog.now fuel c.args.steps.now

pub returns-in-Reached-clause-few_steps : goal.returns-in-Reached-clause-few_steps
returns-in-Reached-clause-few_steps g c board fuel made stands =
    let catalog = c.args.catalog.now in
    let L = NamesPeims (record { rules = g.C.Choice.rules c.args.choice.now; text = g.S.Sink.text; faults = g.S.Sink.faults }) c.args.catalog.now c.args.sink.now in
    let lets = LetsPeims (g.C.Choice.rules c.args.choice.now) c.args.catalog.now in
    let both = c.turns.invariant.way board fuel made stands in
    let way = both.0 in
    few_at_end L lets catalog fuel (pei_opening board catalog) c.args.steps.now way.m way.comes (c.turns.steps + owed_by c.turns.queue) c.turn.new.steps (owed_by c.turn.new.queue) way.now.machine.has.fields.running way.counted
    (c.in_ok-step.ensures.few_steps way.m fuel (c.turns.invariant.made fuel made) way.now)

pub returns-in_err-step-clause-few_steps : goal.returns-in_err-step-clause-few_steps
returns-in_err-step-clause-few_steps g c board fuel made stands =
    let catalog = c.args.catalog.now in
    let L = NamesPeims (record { rules = g.C.Choice.rules c.args.choice.now; text = g.S.Sink.text; faults = g.S.Sink.faults }) c.args.catalog.now c.args.sink.now in
    let lets = LetsPeims (g.C.Choice.rules c.args.choice.now) c.args.catalog.now in
    let both = c.turns.invariant.way board fuel made stands in
    let way = both.0 in
    few_at_end L lets catalog fuel (pei_opening board catalog) c.args.steps.now way.m way.comes (c.turns.steps + owed_by c.turns.queue) c.turn.new.steps (owed_by c.turn.new.queue) way.now.machine.has.fields.running way.counted
    (c.in_err-step.ensures.few_steps way.m fuel (c.turns.invariant.made fuel made) way.now)

pub unreachable-requires : goal.unreachable-requires
unreachable-requires g c =
    let T = g.S.Sink.text in
    let F = g.S.Sink.faults in
    let catalog = c.args.catalog.now in
    let board = c.requires.opening.0 in
    let fuel = c.requires.made.0 in
    let L = NamesPeims (record { rules = g.C.Choice.rules c.args.choice.now; text = T; faults = F }) c.args.catalog.now c.args.sink.now in
    let lets = LetsPeims (g.C.Choice.rules c.args.choice.now) c.args.catalog.now in
    let all : c.bound-end.result ≡ pei_bound catalog fuel = c.bound-end.ensures ∙ ap (pei_bound catalog) (c.fuel.ensures catalog fuel c.requires.made.1) in
    let done = c.turns-test.false in
    turn_to_come c.pei_opens.ensures.ended L lets T F g.M.PeiStore.stands_for catalog fuel (pei_opening board catalog) c.args.pei.now c.args.sink.now c.turns.counter c.turns.pei c.turns.queue c.turns.sink c.args.steps.now (c.turns.steps + owed_by c.turns.queue)
    (c.turns.invariant.way board fuel c.requires.made.1 c.requires.opening.1).0 (omega (arith, all, done))
