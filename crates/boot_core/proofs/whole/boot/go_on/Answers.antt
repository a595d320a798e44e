use Rattle.std.proofs.lemmas.Result.{err_from_is_err_and}
use Rattle.boot_core.specs.Watched.{BootCall, Knowing}
use Rattle.boot_core.proofs.Giving.{given_up_behind, knows_come, knows_none}
use Rattle.boot_core.proofs.whole.boot.go_on.Goals as goal

pub boot_behind-requires-clause-state : goal.boot_behind-requires-clause-state
boot_behind-requires-clause-state g c = c.requires.state

pub returns-in-Closed-clause-row : goal.returns-in-Closed-clause-row
returns-in-Closed-clause-row g c = λ board first pei known right.
    let w : Knowing = record { pei = g.P.PeiWatch.knows_all c.args.watch.now.pei; dxe = g.D.DxeWatch.knows_all c.boot_behind.new.watch } in
    let call : BootCall g.row.M.Denot g.row.S.Denot = record {
      by = record { rules = g.C.Choice.rules c.args.choice.now; text = g.S.Sink.text; faults = g.S.Sink.faults };
      stands = g.M.PeiStore.stands_for;
      takes = g.M.PeiStore.TAKES_MEMORY;
      catalog = c.args.catalog.now;
      fuel = c.args.fuel;
      sink = c.args.sink.now;
      shown = c.boot_behind.new.sink;
    } in
    let told = c.in_ok-behind.ensures.row pei.«end» first pei.is_left (record { put = pei.ended.text; right = right }) in
    rw c.in-Closed.is at (knows_come w call board first c.args.pei c.in_ok-behind.behind pei known told)

pub returns-in-Barred-clause-row : goal.returns-in-Barred-clause-row
returns-in-Barred-clause-row g c = λ board first pei known right.
    let w : Knowing = record { pei = g.P.PeiWatch.knows_all c.args.watch.now.pei; dxe = g.D.DxeWatch.knows_all c.boot_behind.new.watch } in
    let call : BootCall g.row.M.Denot g.row.S.Denot = record {
      by = record { rules = g.C.Choice.rules c.args.choice.now; text = g.S.Sink.text; faults = g.S.Sink.faults };
      stands = g.M.PeiStore.stands_for;
      takes = g.M.PeiStore.TAKES_MEMORY;
      catalog = c.args.catalog.now;
      fuel = c.args.fuel;
      sink = c.args.sink.now;
      shown = c.boot_behind.new.sink;
    } in
    let told = c.in_ok-behind.ensures.row pei.«end» first pei.is_left (record { put = pei.ended.text; right = right }) in
    rw c.in-Barred.is at (knows_come w call board first c.args.pei c.in_ok-behind.behind pei known told)

pub returns-in_err-behind-clause-row : goal.returns-in_err-behind-clause-row
returns-in_err-behind-clause-row g c = λ board first pei known right.
    let stops = (c.in_err-behind.ensures.row pei.«end» first pei.is_left (record { put = pei.ended.text; right = right })).by in
    let p = err_from_is_err_and c.from_residual.result c.from_residual.ensures.1 in
    knows_none _ _ board first c.from_residual.result p.0 c.in_err-behind.field-0.0 p.1 p.2 (given_up_behind _ _ _ g.M.PeiStore.stands_for g.M.PeiStore.TAKES_MEMORY board c.args.catalog.now c.args.fuel first c.boot_behind.new.sink c.in_err-behind.field-0.0
    (record { pei = pei.«end»; comes = pei.comes; how = c.args.pei.«end»; ended = pei.ended.ended; stops = stops }))
