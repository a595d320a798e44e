use Rattle.std.proofs.{Common.◌∙◌, lemmas.Result.err_from_is_err_and}
use Rattle.boot_io.specs.declared.halt.Halt.TheVariants as H
use Rattle.pei_dispatch.specs.Choices.{LetsPeims, NamesPeims}
use Rattle.pei_dispatch.proofs.{ChosenWays.boots_err, ChosenWays.none_ran, Watching.boot_halts_watched}
use Rattle.pei_dispatch.proofs.boot.watch_boot.Goals as goal

pub returns-in-End-clause-row : goal.returns-in-End-clause-row
returns-in-End-clause-row g c board stands =
    let watched = rw c.in-End.is at (c.in_ok-end.ensures.row board c.args.fuel c.in_ok-pei.ensures.made (c.in_ok-pei.ensures.opening board stands)) in
    let run = watched.by in
    record {
      by = record {
        «end» = run.«end»;
        comes = run.comes;
        ended = run.ended;
        is_left = record {
          store_is = c.into_store.ensures _ run.machine;
          actions_are = c.actions.ensures _ run.machine;
          starts_are = c.starts.ensures _ run.machine;
          last_is = c.last_start.ensures ∙ run.last c.in_ok-pei.ensures.last;
        };
      };
      known = watched.known;
    }

pub returns-in-Barred-clause-row : goal.returns-in-Barred-clause-row
returns-in-Barred-clause-row g c board stands =
    let watched = rw c.in-Barred.is at (c.in_ok-end.ensures.row board c.args.fuel c.in_ok-pei.ensures.made (c.in_ok-pei.ensures.opening board stands)) in
    let run = watched.by in
    record {
      by = record {
        m = run.m;
        comes = run.comes;
        bars = run.bars;
        store_is = c.into_store-in-Barred.ensures _ run.machine;
        starts_are = c.starts-in-Barred.ensures _ run.machine;
      };
      known = watched.known;
    }

pub returns-in_err-end-clause-row : goal.returns-in_err-end-clause-row
returns-in_err-end-clause-row g c board stands =
    let p = err_from_is_err_and c.from_residual-in_err-end.result c.from_residual-in_err-end.ensures.1 in
    let T = g.S.Sink.text in
    let Names = NamesPeims (record { rules = g.C.Choice.rules c.args.choice.now; text = T; faults = g.S.Sink.faults }) c.args.catalog.now c.args.sink.now in
    let Lets = LetsPeims (g.C.Choice.rules c.args.choice.now) c.args.catalog.now in
    boot_halts_watched _ _ c.from_residual-in_err-end.result p.0 c.in_err-end.field-0.0 p.1 p.2
    (boots_err Names Lets g.M.PeiStore.stands_for c.args.catalog.now c.args.fuel _ (record { pei = c.in_ok-pei.pei; later = c.run_with_ledger.new.pei; texts = record { old = T c.args.sink.now; new = T c.run_with_ledger.new.sink } }) _
    (c.in_err-end.ensures.row board c.args.fuel c.in_ok-pei.ensures.made (c.in_ok-pei.ensures.opening board stands)).by)

pub returns-in_err-pei-clause-row : goal.returns-in_err-pei-clause-row
returns-in_err-pei-clause-row g c board stands =
    let p = err_from_is_err_and c.from_residual.result c.from_residual.ensures.1 in
    let Names = NamesPeims (record { rules = g.C.Choice.rules c.args.choice.now; text = g.S.Sink.text; faults = g.S.Sink.faults }) c.args.catalog.now c.args.sink.now in
    let Lets = LetsPeims (g.C.Choice.rules c.args.choice.now) c.args.catalog.now in
    boot_halts_watched _ _ c.from_residual.result p.0 H.Memory p.1 p.2 (none_ran Names Lets board c.args.catalog.now c.args.fuel (g.S.Sink.text c.args.sink.now))
