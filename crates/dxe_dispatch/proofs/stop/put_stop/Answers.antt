use Rattle.std.proofs.Common.{◌∙◌, ap, subst, sym, List, Bool}
use Rattle.std.proofs.lemmas.Result.{err_from_is_err_and}
use Rattle.boot_model.specs.DxeStep.{driver_waiting_lines}
use Rattle.dxe_core.specs.Services.{AreFlags}
use Rattle.dxe_dispatch.proofs.WaitingLines.{stop_puts, fails_first}
use Rattle.dxe_dispatch.proofs.stop.put_stop.Goals as goal

pub returns-in_err-put-clause-row : goal.returns-in_err-put-clause-row
returns-in_err-put-clause-row g c m are =
    let p = err_from_is_err_and c.from_residual.result c.from_residual.ensures.1 in
    rw p.1 (fails_first _ _ (driver_waiting_lines c.args.catalog.now m) c.in_err-put.ensures.text)

pub returns-clause-row : goal.returns-clause-row
returns-clause-row g c m are =
    let services = are.core.services in
    let drivers = c.drivers.ensures ∙ ap (λ order. order.drivers) c.order.ensures ∙ services.order.drivers_are in
    let Q : List Bool → Type 0 = λ flags. AreFlags m.requested flags in
    stop_puts c.put_all_waiting.result _ _ _ c.args.catalog.now m c.drivers.result.now drivers c.in_ok-put.ensures.text
    (c.put_all_waiting.ensures.text m are.queue (subst Q (sym c.requested.ensures) services.requested))
