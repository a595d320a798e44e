use Rattle.std.proofs.Common.{ℕ, List, Ok, Err, Result, subst}
use Rattle.std.proofs.lemmas.Result.{err_from_is_err_and}
use Rattle.boot_io.specs.declared.halt.Halt.{Halt}
use Rattle.boot_model.specs.DxeRun.{dxe_opening}
use Rattle.dxe_dispatch.specs.{declared.boot.Left.Left, Watched.BootsKnown, Passes.told_in_dxe}
use Rattle.dxe_dispatch.specs.declared.boot.Left.TheVariants as V
use Rattle.boot_laws.specs.Naming.{Chooser}
use Rattle.dxe_dispatch.specs.Choices.{DxeBoot, LetsDrivers, NamesDrivers}
use Rattle.boot_core.specs.{declared.whole.behind.Behind.Behind, Watched.ComesKnown}
use Rattle.boot_core.proofs.BehindPei.{by_counts, drivers_bar, drivers_close, drivers_stop}
use Rattle.boot_core.proofs.whole.behind.boot_drivers.Goals as goal

pub returns-in-Ended-clause-row : goal.returns-in-Ended-clause-row
returns-in-Ended-clause-row g c = λ pei first left has.
    let T = g.S.Sink.text in
    let F = g.S.Sink.faults in
    let catalog = c.args.catalog.now in
    let fuel = c.args.fuel in
    let from = c.args.pei.now in
    let sink = c.args.sink.now in
    let mid = c.watch_boot.new.sink in
    let Knows = g.D.DxeWatch.knows_all c.watch_boot.new.watch in
    let by : Chooser g.row.S.Denot = record { rules = g.C.Choice.rules c.args.choice.now; text = T; faults = F } in
    let Run : ℕ → ℕ → DxeBoot = λ starts taken.
    let told = told_in_dxe (record { by = by; in_pei = starts }) catalog fuel (dxe_opening catalog pei.store taken) in
    record {
      names = NamesDrivers by told sink;
      lets = LetsDrivers by.rules told;
      told = told;
      catalog = catalog;
      fuel = fuel;
      opening = dxe_opening catalog pei.store taken;
      old = T sink;
      new = T mid;
    } in
    let Boots : Left → Type 0 = λ x. BootsKnown (Run from.starts from.actions) (Knows catalog fuel (dxe_opening catalog pei.store from.actions)) (Ok x) in
    let Come : ℕ → ℕ → Type 0 = λ starts taken. BootsKnown (Run starts taken) (Knows catalog fuel (dxe_opening catalog pei.store taken)) (Ok (V.Ended c.in-Ended.ended)) in
    let come = by_counts Come from.starts from.actions pei left.starts_are left.actions_are (subst Boots c.in-Ended.is (c.in_ok-ended.ensures.row pei.store left.store_is tt)) in
    drivers_close Knows _ pei first mid c.in-Ended.ended c.result_of.result c.close.result has come.by come.known c.in_ok-ended.ensures.faults c.result_of.ensures (c.close.ensures.row pei.store left.store_is tt)

pub returns-in-Barred-clause-row : goal.returns-in-Barred-clause-row
returns-in-Barred-clause-row g c = λ pei first left has.
    let T = g.S.Sink.text in
    let F = g.S.Sink.faults in
    let catalog = c.args.catalog.now in
    let fuel = c.args.fuel in
    let from = c.args.pei.now in
    let sink = c.args.sink.now in
    let mid = c.watch_boot.new.sink in
    let Knows = g.D.DxeWatch.knows_all c.watch_boot.new.watch in
    let by : Chooser g.row.S.Denot = record { rules = g.C.Choice.rules c.args.choice.now; text = T; faults = F } in
    let Run : ℕ → ℕ → DxeBoot = λ starts taken.
    let told = told_in_dxe (record { by = by; in_pei = starts }) catalog fuel (dxe_opening catalog pei.store taken) in
    record {
      names = NamesDrivers by told sink;
      lets = LetsDrivers by.rules told;
      told = told;
      catalog = catalog;
      fuel = fuel;
      opening = dxe_opening catalog pei.store taken;
      old = T sink;
      new = T mid;
    } in
    let Boots : Left → Type 0 = λ x. BootsKnown (Run from.starts from.actions) (Knows catalog fuel (dxe_opening catalog pei.store from.actions)) (Ok x) in
    let Stayed : ℕ → ℕ → Type 0 = λ starts taken. BootsKnown (Run starts taken) (Knows catalog fuel (dxe_opening catalog pei.store taken)) (Ok (V.Barred c.in-Barred.barred)) in
    let stayed = by_counts Stayed from.starts from.actions pei left.starts_are left.actions_are (subst Boots c.in-Barred.is (c.in_ok-ended.ensures.row pei.store left.store_is tt)) in
    drivers_bar Knows _ pei first c.in-Barred.barred has stayed.by stayed.known

pub returns-in_err-ended-clause-row : goal.returns-in_err-ended-clause-row
returns-in_err-ended-clause-row g c = λ pei first left has.
    let T = g.S.Sink.text in
    let F = g.S.Sink.faults in
    let catalog = c.args.catalog.now in
    let fuel = c.args.fuel in
    let from = c.args.pei.now in
    let sink = c.args.sink.now in
    let mid = c.watch_boot.new.sink in
    let Knows = g.D.DxeWatch.knows_all c.watch_boot.new.watch in
    let by : Chooser g.row.S.Denot = record { rules = g.C.Choice.rules c.args.choice.now; text = T; faults = F } in
    let Run : ℕ → ℕ → DxeBoot = λ starts taken.
    let told = told_in_dxe (record { by = by; in_pei = starts }) catalog fuel (dxe_opening catalog pei.store taken) in
    record {
      names = NamesDrivers by told sink;
      lets = LetsDrivers by.rules told;
      told = told;
      catalog = catalog;
      fuel = fuel;
      opening = dxe_opening catalog pei.store taken;
      old = T sink;
      new = T mid;
    } in
    let Stops : ℕ → ℕ → Type 0 = λ starts taken. BootsKnown (Run starts taken) (Knows catalog fuel (dxe_opening catalog pei.store taken)) (Err c.in_err-ended.field-0.0) in
    let stops = by_counts Stops from.starts from.actions pei left.starts_are left.actions_are (c.in_err-ended.ensures.row pei.store left.store_is tt) in
    let p = err_from_is_err_and c.from_residual.result c.from_residual.ensures.1 in
    rw p.1 (drivers_stop Knows _ pei first p.0 has stops.by)
