use Rattle.std.proofs.Common.{◌<◌, ◌^◌, arith, length, subst, sym}
use Rattle.std.proofs.lemmas.Result.{err_from_is_err_and}
use Rattle.store_model.specs.HandleState.{HandleState}
use Rattle.boot_model.specs.DxeRun.{dxe_opening}
use Rattle.dxe_dispatch.proofs.Following.{choice_of, lets_along, names_along}
use Rattle.dxe_dispatch.proofs.{Openings.handles_are, Openings.none_ran, Watching.boot_halts_watched, Watching.boots_watched}
use Rattle.dxe_dispatch.proofs.boot.watch_boot.Goals as goal

pub run_with_ledger-run-requires-clause-opening : goal.run_with_ledger-run-requires-clause-opening
run_with_ledger-run-requires-clause-opening g c = let s = c.requires.state.0 in (s, c.args.taken, c.in_ok-dxe.ensures.row s c.requires.state.1)

pub returns-in_err-dxe-clause-row : goal.returns-in_err-dxe-clause-row
returns-in_err-dxe-clause-row g c s here any =
    let p = err_from_is_err_and c.from_residual.result c.from_residual.ensures.1 in
    let catalog = c.args.catalog.now in
    let choice = choice_of (g.C.Choice.rules c.args.choice.now) g.S.Sink.text g.S.Sink.faults c.args.in_pei in
    let opening = dxe_opening catalog s c.args.taken in
    boot_halts_watched _ _ c.from_residual.result p.0 p.1 (none_ran (names_along choice catalog c.args.fuel opening c.args.sink.now) (lets_along choice catalog c.args.fuel opening) catalog c.args.fuel opening (g.S.Sink.text c.args.sink.now))

pub returns-in_err-run-clause-row : goal.returns-in_err-run-clause-row
returns-in_err-run-clause-row g c s here any =
    let p = err_from_is_err_and c.from_residual-in_err-run.result c.from_residual-in_err-run.ensures.1 in
    boot_halts_watched _ _ c.from_residual-in_err-run.result p.0 p.1 (c.in_err-run.ensures.row s c.args.taken c.args.fuel c.in_ok-dxe.ensures.made (c.in_ok-dxe.ensures.row s here))

pub returns-clause-row : goal.returns-clause-row
returns-clause-row g c s here any =
    let run = c.in_ok-run.field-0 in
    let by = c.in_ok-run.ensures.row s c.args.taken c.args.fuel c.in_ok-dxe.ensures.made (c.in_ok-dxe.ensures.row s here) in
    rw c.left_by.ensures (boots_watched _ by.0 _ run.reached c.into_handles-handles.result run.before c.into_handles-handles.ensures by.1 by.2)

pub returns-clause-few : goal.returns-clause-few
returns-clause-few g c =
    let run = c.in_ok-run.field-0 in
    let opened = c.in_ok-dxe.ensures.row c.requires.state.0 c.requires.state.1 in
    let actions = opened.core.actions in
    let fits = c.ranges.taken in
    let few = c.in_ok-run.ensures.few (omega (arith, actions, fits)) in
    let P : HandleState → Type 0 = λ handles. length handles.interfaces < 2 ^ 32 in
    rw c.left_by.ensures (subst P (sym (handles_are c.into_handles-handles.result run.before run.reached)) (subst P (sym c.into_handles-handles.ensures) few))
