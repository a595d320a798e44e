use Rattle.std.proofs.lemmas.Result.{err_from_is_err_and}
use Rattle.boot_model.specs.DxeRun.{dxe_opening}
use Rattle.dxe_dispatch.proofs.Following.{choice_of, lets_along, names_along}
use Rattle.dxe_dispatch.proofs.Openings.{none_ran, some_left}
use Rattle.dxe_dispatch.proofs.boot.run_with_ledger.Goals as goal

pub watch_dxe-requires-clause-made : goal.watch_dxe-requires-clause-made
watch_dxe-requires-clause-made g c = c.requires.made

pub returns-in_err-agenda-clause-row : goal.returns-in_err-agenda-clause-row
returns-in_err-agenda-clause-row g c s actions fuel made stands =
    let p = err_from_is_err_and c.from_residual.result c.from_residual.ensures.1 in
    let catalog = c.args.catalog.now in
    let choice = choice_of (g.C.Choice.rules c.args.choice.now) g.S.Sink.text g.S.Sink.faults c.args.in_pei in
    let opening = dxe_opening catalog s actions in
    rw p.1 (none_ran (names_along choice catalog fuel opening c.args.sink.now) (lets_along choice catalog fuel opening) catalog fuel opening (g.S.Sink.text c.args.sink.now))

pub returns-in_err-reached-clause-row : goal.returns-in_err-reached-clause-row
returns-in_err-reached-clause-row g c s actions fuel made stands =
    let p = err_from_is_err_and c.from_residual-in_err-reached.result c.from_residual-in_err-reached.ensures.1 in
    rw p.1 (c.in_err-reached.ensures.row s actions fuel made stands).by

pub told_last-before-requires-clause-some : goal.told_last-before-requires-clause-some
told_last-before-requires-clause-some g c =
    let T = g.S.Sink.text in
    let catalog = c.args.catalog.now in
    let s = c.requires.opening.0 in
    let actions = c.requires.opening.1 in
    let fuel = c.requires.made.0 in
    let choice = choice_of (g.C.Choice.rules c.args.choice.now) T g.S.Sink.faults c.args.in_pei in
    let opening = dxe_opening catalog s actions in
    some_left (names_along choice catalog fuel opening c.args.sink.now) (lets_along choice catalog fuel opening) g.M.PeiStore.stands_for c.args.store.now catalog fuel opening c.watch_dxe.new.dxe c.in_ok-reached.reached (T c.args.sink.now) (T c.watch_dxe.new.sink)
    c.watch_dxe.new.agenda.queue (c.in_ok-reached.ensures.row s actions fuel c.requires.made.1 c.requires.opening.2).by

pub returns-clause-row : goal.returns-clause-row
returns-clause-row g c s actions fuel made stands = (c.watch_dxe.new.agenda, c.told_last-before.ensures, c.in_ok-reached.ensures.row s actions fuel made stands)
